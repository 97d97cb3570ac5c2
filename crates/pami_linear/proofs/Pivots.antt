-- What the pivot rule finds.
use Rattle.std.proofs.Common.{◌≡◌, ℕ, zero, suc, ◌<◌, ◌≤◌, refl, sym, subst, arith, Bool, true, false, cond, not, Option, Some, None, ⊎_elim, ◌⊎◌, inl, inr}
use Rattle.std.proofs.lemmas.Bool.{cases_lt, ltb-true, ltb-false}
use lib.IntN.{pos}
use lib.Dec.{T, ltb}
use Rattle.pami_algebra.specs.Fraction.{Fraction}
use Rattle.pami_algebra.specs.Operations.{of_int, is_zero}
use Rattle.pami_algebra.proofs.Tests.{is_zero_iff, not_zero_iff}
use Rattle.pami_linear.specs.Pivoting.{Pivot, better, in_column, least, allowed_in, cost_in, pivot, IsAhead, IsFirst, IsFound, IsInside}
use Rattle.pami_linear.specs.Chains.{IsPivot}

-- the pairs of m rows before row j at place k
abbrev pub Before : ℕ → ℕ → ℕ → ℕ → ℕ → Type 0
Before m k j i p = (i < m) × ((p < k) ⊎ ((p ≡ k) × (i < j)))

wider : (m k j i p : ℕ) → Before m k j i p → Before m k (suc j) i p
wider m k j i p h = (h.0, ⊎_elim (λ (a : p < k). inl a) (λ (a : (p ≡ k) × (i < j)). inr (a.0, let b : i < j = a.1 in omega arith)) h.1)

narrower : (m k j i p : ℕ) → Before m k (suc j) i p → Before m k j i p ⊎ ((i ≡ j) × (p ≡ k))
narrower m k j i p h = ⊎_elim
    (λ (a : p < k). inl (h.0, inl a))
    (λ (a : (p ≡ k) × (i < suc j)). ⊎_elim (λ (b : i < j). inl (h.0, inr (a.0, b))) (λ (b : j ≤ i). inr (let d : i < suc j = a.1 in omega arith, a.0)) (cases_lt i j))
    h.1

pub found_same : (allowed : ℕ → ℕ → Bool) (cost : ℕ → ℕ → ℕ) (seen other : ℕ → ℕ → Type 0) (o : Option Pivot) →
    ((i p : ℕ) → seen i p → other i p) → ((i p : ℕ) → other i p → seen i p) → IsFound allowed cost seen o → IsFound allowed cost other o
found_same allowed cost seen other None to back f = λ i p s t. f i p (back i p s) t
found_same allowed cost seen other (Some q) to back f = record { among = to q.row q.place f.among; may = f.may; ahead = λ i p s t. f.ahead i p (back i p s) t }

-- a pair that comes later and costs no less
after : (cost : ℕ → ℕ → ℕ) (m k j i p : ℕ) → Before m k j i p → cost i p ≤ cost j k → IsAhead cost i p j k
after cost m k j i p h e = ⊎_elim
    (λ (a : cost i p < cost j k). inl a)
    (λ (a : cost j k ≤ cost i p). inr (omega arith, ⊎_elim (λ (b : p < k). inl b) (λ (b : (p ≡ k) × (i < j)). inr (b.0, let d : i < j = b.1 in omega arith)) h.1))
    (cases_lt (cost i p) (cost j k))

cost_of : (cost : ℕ → ℕ → ℕ) (j q i p : ℕ) → IsAhead cost j q i p → cost j q ≤ cost i p
cost_of cost j q i p h = ⊎_elim (λ (a : cost j q < cost i p). omega arith) (λ (a : (cost j q ≡ cost i p) × ((q < p) ⊎ ((q ≡ p) × (j ≤ i)))). let e : cost j q ≡ cost i p = a.0 in omega arith) h

itself : (cost : ℕ → ℕ → ℕ) (j k i p : ℕ) → i ≡ j → p ≡ k → IsAhead cost j k i p
itself cost j k i p e f = subst (λ n. IsAhead cost j k n p) (sym e) (subst (λ n. IsAhead cost j k j n) (sym f) (inr (refl, inr (refl, omega arith))))

at_pair : (P : ℕ → ℕ → Type 0) (j k i p : ℕ) → i ≡ j → p ≡ k → P j k → P i p
at_pair P j k i p e f h = subst (λ n. P n p) (sym e) (subst (λ n. P j n) (sym f) h)

found_next : (allowed : ℕ → ℕ → Bool) (cost : ℕ → ℕ → ℕ) (m k j : ℕ) (q : Pivot) (t : Bool) → ltb (cost j k) (cost q.row q.place) ≡ t → T (allowed j k) → j < m →
    IsFirst allowed cost (Before m k j) q → IsFirst allowed cost (Before m k (suc j)) (cond t (record { row = j; place = k }) q)
found_next allowed cost m k j q true e a l f = record {
  among = (l, inr (refl, omega arith));
  may = a;
  ahead = λ i p s t. ⊎_elim
      (λ (b : Before m k j i p). let x : cost j k < cost q.row q.place = ltb-true (cost j k) (cost q.row q.place) e in let y : cost q.row q.place ≤ cost i p = cost_of cost q.row q.place i p (f.ahead i p b t) in inl (omega arith))
      (λ (b : (i ≡ j) × (p ≡ k)). itself cost j k i p b.0 b.1)
      (narrower m k j i p s);
}
found_next allowed cost m k j q false e a l f = record {
  among = wider m k j q.row q.place f.among;
  may = f.may;
  ahead = λ i p s t. ⊎_elim
      (λ (b : Before m k j i p). f.ahead i p b t)
      (λ (b : (i ≡ j) × (p ≡ k)). at_pair (λ n o. IsAhead cost q.row q.place n o) j k i p b.0 b.1 (after cost m k j q.row q.place f.among (ltb-false (cost j k) (cost q.row q.place) e)))
      (narrower m k j i p s);
}

cond_found : (allowed : ℕ → ℕ → Bool) (cost : ℕ → ℕ → ℕ) (seen : ℕ → ℕ → Type 0) (t : Bool) (p q : Pivot) → IsFirst allowed cost seen (cond t p q) → IsFound allowed cost seen (cond t (Some p) (Some q))
cond_found allowed cost seen true p q f = f
cond_found allowed cost seen false p q f = f

found_more : (allowed : ℕ → ℕ → Bool) (cost : ℕ → ℕ → ℕ) (m k j : ℕ) (o : Option Pivot) (t : Bool) → allowed j k ≡ t → j < m →
    IsFound allowed cost (Before m k j) o → IsFound allowed cost (Before m k (suc j)) (better t cost o j k)
found_more allowed cost m k j None false e l f = λ i p s t. ⊎_elim
    (λ (b : Before m k j i p). f i p b t)
    (λ (b : (i ≡ j) × (p ≡ k)). subst T e (at_pair (λ n o. T (allowed n o)) i p j k (sym b.0) (sym b.1) t))
    (narrower m k j i p s)
found_more allowed cost m k j (Some q) false e l f = record {
  among = wider m k j q.row q.place f.among;
  may = f.may;
  ahead = λ i p s t. ⊎_elim
      (λ (b : Before m k j i p). f.ahead i p b t)
      (λ (b : (i ≡ j) × (p ≡ k)). absurd (subst T e (at_pair (λ n o. T (allowed n o)) i p j k (sym b.0) (sym b.1) t)))
      (narrower m k j i p s);
}
found_more allowed cost m k j None true e l f = record {
  among = (l, inr (refl, omega arith));
  may = subst T (sym e) tt;
  ahead = λ i p s t. ⊎_elim
      (λ (b : Before m k j i p). absurd (f i p b t))
      (λ (b : (i ≡ j) × (p ≡ k)). itself cost j k i p b.0 b.1)
      (narrower m k j i p s);
}
found_more allowed cost m k j (Some q) true e l f =
    cond_found allowed cost (Before m k (suc j)) (ltb (cost j k) (cost q.row q.place)) (record { row = j; place = k }) q
    (found_next allowed cost m k j q (ltb (cost j k) (cost q.row q.place)) refl (subst T (sym e) tt) l f)

found_column : (allowed : ℕ → ℕ → Bool) (cost : ℕ → ℕ → ℕ) (m k j : ℕ) (o : Option Pivot) → j ≤ m →
    IsFound allowed cost (Before m k 0) o → IsFound allowed cost (Before m k j) (in_column allowed cost j k o)
found_column allowed cost m k zero o l f = f
found_column allowed cost m k (suc j) o l f =
    found_more allowed cost m k j (in_column allowed cost j k o) (allowed j k) refl (omega arith) (found_column allowed cost m k j o (omega arith) f)

next_place : (m k i p : ℕ) → Before m k m i p → Before m (suc k) 0 i p
next_place m k i p h = (h.0, inl (⊎_elim (λ (a : p < k). omega arith) (λ (a : (p ≡ k) × (i < m)). let e : p ≡ k = a.0 in omega arith) h.1))

last_place : (m k i p : ℕ) → Before m (suc k) 0 i p → Before m k m i p
last_place m k i p h = (h.0, ⊎_elim (λ (a : p < suc k). ⊎_elim (λ (b : p < k). inl b) (λ (b : k ≤ p). inr (omega arith, h.0)) (cases_lt p k)) (λ (a : (p ≡ suc k) × (i < 0)). let e : i < 0 = a.1 in absurd (omega arith)) h.1)

found_least : (allowed : ℕ → ℕ → Bool) (cost : ℕ → ℕ → ℕ) (m k : ℕ) → IsFound allowed cost (Before m k 0) (least allowed cost m k)
found_least allowed cost m zero = λ i p h t. ⊎_elim (λ (a : p < 0). omega arith) (λ (a : (p ≡ 0) × (i < 0)). let e : i < 0 = a.1 in omega arith) h.1
found_least allowed cost m (suc k) =
    found_same allowed cost (Before m k m) (Before m (suc k) 0) (in_column allowed cost m k (least allowed cost m k)) (next_place m k) (last_place m k)
    (found_column allowed cost m k m (least allowed cost m k) (omega arith) (found_least allowed cost m k))

in_square : (m i p : ℕ) → Before m m 0 i p → IsInside m i p
in_square m i p h = (h.0, ⊎_elim (λ (a : p < m). a) (λ (a : (p ≡ m) × (i < 0)). let e : i < 0 = a.1 in absurd (omega arith)) h.1)

-- the search keeps the rule
pub pivot_is_first : (m : ℕ) (r c : ℕ → Bool) (w : ℕ → ℕ → Fraction) → IsFound (allowed_in r c w) (cost_in m r c w) (IsInside m) (pivot m r c w)
unfolding pivot
pivot_is_first m r c w =
    found_same (allowed_in r c w) (cost_in m r c w) (Before m m 0) (IsInside m) (least (allowed_in r c w) (cost_in m r c w) m m)
    (in_square m) (λ i p h. (h.0, inl h.1)) (found_least (allowed_in r c w) (cost_in m r c w) m m)

-- ---- the test for 0
true_from : (b : Bool) → T b → b ≡ true
true_from true h = refl
true_from false h = absurd h

false_from : (b : Bool) → T (not b) → b ≡ false
false_from true h = absurd h
false_from false h = refl

zero_is : (x : Fraction) → T (is_zero x) → x ≡ of_int (pos 0)
zero_is x h = (is_zero_iff x).0 (true_from (is_zero x) h)

nonzero_from : (x : Fraction) → T (not (is_zero x)) → ¬ (x ≡ of_int (pos 0))
nonzero_from x h = (not_zero_iff x).0 (false_from (is_zero x) h)

pub allowed_parts : (a b z : Bool) → T (cond a (cond b (not z) false) false) → T a × T b × T (not z)
allowed_parts true true z h = (tt, tt, h)
allowed_parts true false z h = absurd h
allowed_parts false b z h = absurd h

allowed_from : (a b z : Bool) → T a → T b → (T (cond a (cond b (not z) false) false) → ⊥) → T z
allowed_from true true true h k n = tt
allowed_from true true false h k n = n tt
allowed_from true false z h k n = absurd k
allowed_from false b z h k n = absurd h

pub pivot_from : (m : ℕ) (r c : ℕ → Bool) (w : ℕ → ℕ → Fraction) (q : Pivot) → IsFound (allowed_in r c w) (cost_in m r c w) (IsInside m) (Some q) → IsPivot m r c w q.row q.place
pivot_from m r c w q f =
    let a = allowed_parts (r q.row) (c q.place) (is_zero (w q.row q.place)) f.may in
    record { row_low = f.among.0; row_in = a.0; place_low = f.among.1; place_in = a.1; nonzero = nonzero_from (w q.row q.place) a.2 }

pub none_from : (m : ℕ) (r c : ℕ → Bool) (w : ℕ → ℕ → Fraction) → IsFound (allowed_in r c w) (cost_in m r c w) (IsInside m) None →
    (i p : ℕ) → i < m → p < m → T (r i) → T (c p) → w i p ≡ of_int (pos 0)
none_from m r c w f i p li lp ti tp = zero_is (w i p) (allowed_from (r i) (c p) (is_zero (w i p)) ti tp (f i p (li, lp)))

pub pivot_some : (m : ℕ) (r c : ℕ → Bool) (w : ℕ → ℕ → Fraction) (q : Pivot) → pivot m r c w ≡ Some q → IsPivot m r c w q.row q.place
pivot_some m r c w q e = pivot_from m r c w q (subst (IsFound (allowed_in r c w) (cost_in m r c w) (IsInside m)) e (pivot_is_first m r c w))

pub pivot_none : (m : ℕ) (r c : ℕ → Bool) (w : ℕ → ℕ → Fraction) → pivot m r c w ≡ None → (i p : ℕ) → i < m → p < m → T (r i) → T (c p) → w i p ≡ of_int (pos 0)
pivot_none m r c w e = none_from m r c w (subst (IsFound (allowed_in r c w) (cost_in m r c w) (IsInside m)) e (pivot_is_first m r c w))
