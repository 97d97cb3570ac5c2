-- The rule determines the pivot, and the pivot depends on the active entries alone.
use Rattle.std.proofs.Common.{◌≡◌, ℕ, zero, suc, ◌+◌, ◌-◌, ◌*◌, ◌<◌, ◌≤◌, refl, sym, ap, ◌∙◌, subst, arith, Bool, true, false, cond, not, Option, Some, None, ⊎_elim, ◌⊎◌}
use lib.Dec.{T}
use Rattle.pami_algebra.specs.Fraction.{Fraction}
use Rattle.pami_algebra.specs.Operations.{is_zero}
use Rattle.pami_linear.specs.Pivoting.{Pivot, allowed_in, cost_in, row_count, place_count, pivot, IsAhead, IsFirst, IsFound, IsInside}
use Rattle.pami_linear.specs.Active.{first_from}
use Rattle.pami_linear.proofs.Parts.{count_same}
use Rattle.pami_linear.proofs.Pivots.{pivot_is_first, allowed_parts}

same_pivot : (p q : Pivot) → p.row ≡ q.row → p.place ≡ q.place → p ≡ q
same_pivot p q e f = ap (λ n. record { row = n; place = p.place }) e ∙ ap (λ n. record { row = q.row; place = n }) f

ahead_both : (cost : ℕ → ℕ → ℕ) (j k i p : ℕ) → IsAhead cost j k i p → IsAhead cost i p j k → (j ≡ i) × (k ≡ p)
ahead_both cost j k i p a b = ⊎_elim
    (λ (u : cost j k < cost i p). ⊎_elim (λ (v : cost i p < cost j k). absurd (omega arith)) (λ (v : (cost i p ≡ cost j k) × ((p < k) ⊎ ((p ≡ k) × (i ≤ j)))). let e : cost i p ≡ cost j k = v.0 in absurd (omega arith)) b)
    (λ (u : (cost j k ≡ cost i p) × ((k < p) ⊎ ((k ≡ p) × (j ≤ i)))). ⊎_elim
    (λ (v : cost i p < cost j k). let e : cost j k ≡ cost i p = u.0 in absurd (omega arith))
    (λ (v : (cost i p ≡ cost j k) × ((p < k) ⊎ ((p ≡ k) × (i ≤ j)))). ⊎_elim
    (λ (x : k < p). ⊎_elim (λ (y : p < k). absurd (omega arith)) (λ (y : (p ≡ k) × (i ≤ j)). let e : p ≡ k = y.0 in absurd (omega arith)) v.1)
    (λ (x : (k ≡ p) × (j ≤ i)). ⊎_elim (λ (y : p < k). let e : k ≡ p = x.0 in absurd (omega arith)) (λ (y : (p ≡ k) × (i ≤ j)). let e : j ≤ i = x.1 in let f : i ≤ j = y.1 in (omega arith, x.0)) v.1)
    u.1)
    b)
    a

pub first_unique : (allowed : ℕ → ℕ → Bool) (cost : ℕ → ℕ → ℕ) (seen : ℕ → ℕ → Type 0) (p q : Pivot) → IsFirst allowed cost seen p → IsFirst allowed cost seen q → p ≡ q
first_unique allowed cost seen p q a b =
    let e = ahead_both cost p.row p.place q.row q.place (a.ahead q.row q.place b.among b.may) (b.ahead p.row p.place a.among a.may) in
    same_pivot p q e.0 e.1

pub found_unique : (allowed : ℕ → ℕ → Bool) (cost : ℕ → ℕ → ℕ) (seen : ℕ → ℕ → Type 0) (p q : Option Pivot) → IsFound allowed cost seen p → IsFound allowed cost seen q → p ≡ q
found_unique allowed cost seen None None a b = refl
found_unique allowed cost seen None (Some q) a b = absurd (a q.row q.place b.among b.may)
found_unique allowed cost seen (Some p) None a b = absurd (b p.row p.place a.among a.may)
found_unique allowed cost seen (Some p) (Some q) a b = ap Some (first_unique allowed cost seen p q a b)

found_moved : (allowed allowed' : ℕ → ℕ → Bool) (cost cost' : ℕ → ℕ → ℕ) (seen : ℕ → ℕ → Type 0) (o : Option Pivot) → ((i p : ℕ) → seen i p → allowed' i p ≡ allowed i p) →
    ((i p : ℕ) → seen i p → T (allowed i p) → cost' i p ≡ cost i p) → IsFound allowed cost seen o → IsFound allowed' cost' seen o
found_moved allowed allowed' cost cost' seen None ea ec f = λ i p s t. f i p s (subst T (ea i p s) t)
found_moved allowed allowed' cost cost' seen (Some q) ea ec f = record {
  among = f.among;
  may = subst T (sym (ea q.row q.place f.among)) f.may;
  ahead = λ i p s t.
      let u : T (allowed i p) = subst T (ea i p s) t in
      let a : IsAhead cost q.row q.place i p = f.ahead i p s u in
      subst (λ n. (n < cost' i p) ⊎ ((n ≡ cost' i p) × ((q.place < p) ⊎ ((q.place ≡ p) × (q.row ≤ i))))) (sym (ec q.row q.place f.among f.may))
      (subst (λ n. (cost q.row q.place < n) ⊎ ((cost q.row q.place ≡ n) × ((q.place < p) ⊎ ((q.place ≡ p) × (q.row ≤ i))))) (sym (ec i p s u)) a);
}

cond_and : (a b : Bool) (x y : Bool) → (T a → T b → x ≡ y) → cond a (cond b x false) false ≡ cond a (cond b y false) false
cond_and true true x y h = h tt tt
cond_and true false x y h = refl
cond_and false b x y h = refl

cond_one : (a : Bool) (x y : Bool) → (T a → x ≡ y) → cond a x false ≡ cond a y false
cond_one true x y h = h tt
cond_one false x y h = refl

pub pivot_moved : (m : ℕ) (r c r' c' : ℕ → Bool) (w w' : ℕ → ℕ → Fraction) → ((h : ℕ) → h < m → r' h ≡ r h) → ((g : ℕ) → g < m → c' g ≡ c g) →
    ((h g : ℕ) → h < m → g < m → T (r h) → T (c g) → w' h g ≡ w h g) → pivot m r' c' w' ≡ pivot m r c w
pivot_moved m r c r' c' w w' er ec ew =
    found_unique (allowed_in r' c' w') (cost_in m r' c' w') (IsInside m) (pivot m r' c' w') (pivot m r c w) (pivot_is_first m r' c' w')
    (found_moved (allowed_in r c w) (allowed_in r' c' w') (cost_in m r c w) (cost_in m r' c' w') (IsInside m) (pivot m r c w)
    (λ i p s.
    ap (λ t. cond t (cond (c' p) (not (is_zero (w' i p))) false) false) (er i s.0) ∙ ap (λ t. cond (r i) (cond t (not (is_zero (w' i p))) false) false) (ec p s.1)
    ∙ cond_and (r i) (c p) (not (is_zero (w' i p))) (not (is_zero (w i p))) (λ a b. ap (λ z. not (is_zero z)) (ew i p s.0 s.1 a b)))
    (λ i p s t.
    let a = allowed_parts (r i) (c p) (is_zero (w i p)) t in
    ap (λ n. (n - 1) * (place_count m r' w' p - 1)) (count_same m (λ g. cond (c' g) (not (is_zero (w' i g))) false) (λ g. cond (c g) (not (is_zero (w i g))) false)
    (λ g l. ap (λ t. cond t (not (is_zero (w' i g))) false) (ec g l) ∙ cond_one (c g) (not (is_zero (w' i g))) (not (is_zero (w i g))) (λ b. ap (λ z. not (is_zero z)) (ew i g s.0 l a.0 b))))
    ∙ ap (λ n. (row_count m c w i - 1) * (n - 1)) (count_same m (λ h. cond (r' h) (not (is_zero (w' h p))) false) (λ h. cond (r h) (not (is_zero (w h p))) false)
    (λ h l. ap (λ t. cond t (not (is_zero (w' h p))) false) (er h l) ∙ cond_one (r h) (not (is_zero (w' h p))) (not (is_zero (w h p))) (λ b. ap (λ z. not (is_zero z)) (ew h p l s.1 b a.1)))))
    (pivot_is_first m r c w))

pub first_moved : (n k m : ℕ) (a b : ℕ → Bool) → k + n ≡ m → ((g : ℕ) → g < m → a g ≡ b g) → first_from n k a ≡ first_from n k b
first_moved zero k m a b e h = refl
first_moved (suc n) k m a b e h = ap (λ t. cond t k (first_from n (suc k) a)) (h k (omega arith)) ∙ ap (λ z. cond (b k) k z) (first_moved n (suc k) m a b (omega arith) h)
