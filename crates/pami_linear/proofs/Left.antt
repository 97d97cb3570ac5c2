-- The place that an elimination leaves without a pivot.
use Rattle.std.proofs.Common.{◌≡◌, ℕ, zero, suc, ◌+◌, ◌<◌, ◌≤◌, refl, sym, subst, arith, Bool, true, false, cond, List, Option, Some, None, Result, Ok, Err, ⊎_elim}
use Rattle.std.proofs.lemmas.Bool.{cases_eq}
use lib.Dec.{T}
use Rattle.pami_algebra.specs.Fraction.{Fraction}
use Rattle.pami_linear.specs.Active.{but, count, first_from}
use Rattle.pami_linear.specs.Pivoting.{Pivot, allowed_in, cost_in, pivot, at_pivot, IsFound, IsInside}
use Rattle.pami_linear.specs.Elimination.{EliminationStep, step_of, reduced, more, eliminate_from, eliminate}
use Rattle.pami_linear.specs.Chains.{IsPivot, Leaves, stuck, passed}
use Rattle.pami_linear.proofs.Parts.{count_but, count_all, count_some}
use Rattle.pami_linear.proofs.Pivots.{pivot_is_first, pivot_from, none_from}

-- ---- the least active one
-- p is active, and no active one of those from k on is below it
pub record IsLeastFrom (k m : ℕ) (a : ℕ → Bool) (p : ℕ) : Type 0 where
  pub low : p < m
  pub active : T (a p)
  pub least : (g : ℕ) → k ≤ g → g < m → T (a g) → p ≤ g

skipped : (k m p : ℕ) (a : ℕ → Bool) → a k ≡ false → IsLeastFrom (suc k) m a p → IsLeastFrom k m a p
skipped k m p a f h = record {
  low = h.low;
  active = h.active;
  least = λ g u l t. ⊎_elim (λ (q : k ≡ g). absurd (subst T f (subst (λ n. T (a n)) (sym q) t))) (λ (q : ¬ (k ≡ g)). h.least g (omega arith) l t) (cases_eq k g);
}

first_by : (k m q : ℕ) (a : ℕ → Bool) (b : Bool) → a k ≡ b → k < m → (b ≡ false → IsLeastFrom (suc k) m a q) → IsLeastFrom k m a (cond b k q)
first_by k m q a true f l next = record { low = l; active = subst T (sym f) tt; least = λ g u j t. u }
first_by k m q a false f l next = skipped k m q a f (next refl)

first_is : (n k m g : ℕ) (a : ℕ → Bool) → k + n ≡ m → k ≤ g → g < m → T (a g) → IsLeastFrom k m a (first_from n k a)
first_is zero k m g a e u l t = absurd (omega arith)
first_is (suc n) k m g a e u l t = first_by k m (first_from n (suc k) a) a (a k) refl (omega arith)
    (λ f. first_is n (suc k) m g a (omega arith) (⊎_elim (λ (q : k ≡ g). absurd (subst T f (subst (λ i. T (a i)) (sym q) t))) (λ (q : ¬ (k ≡ g)). omega arith) (cases_eq k g)) l t)

-- of those below m
pub first_low : (m g : ℕ) (a : ℕ → Bool) → g < m → T (a g) → first_from m 0 a < m
first_low m g a l t = (first_is m 0 m g a (omega arith) (omega arith) l t).low

pub first_active : (m g : ℕ) (a : ℕ → Bool) → g < m → T (a g) → T (a (first_from m 0 a))
first_active m g a l t = (first_is m 0 m g a (omega arith) (omega arith) l t).active

pub first_least : (m g : ℕ) (a : ℕ → Bool) → g < m → T (a g) → first_from m 0 a ≤ g
first_least m g a l t = (first_is m 0 m g a (omega arith) (omega arith) l t).least g (omega arith) l t

-- ---- the place
-- what an answer says where it isn't the steps
abbrev pub LeavesIfErr : ℕ → (ℕ → Bool) → (ℕ → Bool) → (ℕ → ℕ → Fraction) → Result (List EliminationStep) ℕ → Type 0
LeavesIfErr m r c w (Ok ss) = Unit {0}
LeavesIfErr m r c w (Err p) = Leaves m r c w p

left_here : (m n : ℕ) (r c : ℕ → Bool) (w : ℕ → ℕ → Fraction) → count m c ≡ suc n → IsFound (allowed_in r c w) (cost_in m r c w) (IsInside m) None → Leaves m r c w (first_from m 0 c)
left_here m n r c w e f =
    let s = count_some m n c e in
    stuck r c w (first_from m 0 c) (λ h g lh lg th tg. none_from m r c w f h g lh lg th tg) (first_low m s.0 c s.1 s.2) (first_active m s.0 c s.1 s.2) (λ g l t. first_least m g c l t)

left_more : (m : ℕ) (r c : ℕ → Bool) (w : ℕ → ℕ → Fraction) (q : Pivot) (o : Result (List EliminationStep) ℕ) → pivot m r c w ≡ Some q →
    LeavesIfErr m (but q.row r) (but q.place c) (reduced w q.row q.place) o → LeavesIfErr m r c w (more (step_of r c w q.row q.place) o)
left_more m r c w q (Ok ss) e u = tt
left_more m r c w q (Err p) e u = passed r c w q p e u

left_by : (n m : ℕ) (r c : ℕ → Bool) (w : ℕ → ℕ → Fraction) (o : Option Pivot) → pivot m r c w ≡ o → count m r ≡ suc n → count m c ≡ suc n → IsFound (allowed_in r c w) (cost_in m r c w) (IsInside m) o →
    ((r c : ℕ → Bool) (w : ℕ → ℕ → Fraction) → count m r ≡ n → count m c ≡ n → LeavesIfErr m r c w (eliminate_from n m r c w)) →
    LeavesIfErr m r c w (at_pivot o (Err (first_from m 0 c)) (λ i p. more (step_of r c w i p) (eliminate_from n m (but i r) (but p c) (reduced w i p))))
left_by n m r c w None e er ec f next = left_here m n r c w ec f
left_by n m r c w (Some q) e er ec f next =
    let s : IsPivot m r c w q.row q.place = pivot_from m r c w q f in
    let dr : count m r ≡ suc (count m (but q.row r)) = count_but m q.row r s.row_low s.row_in in
    let dc : count m c ≡ suc (count m (but q.place c)) = count_but m q.place c s.place_low s.place_in in
    left_more m r c w q (eliminate_from n m (but q.row r) (but q.place c) (reduced w q.row q.place)) e
    (next (but q.row r) (but q.place c) (reduced w q.row q.place) (omega arith) (omega arith))

pub left_from : (n m : ℕ) (r c : ℕ → Bool) (w : ℕ → ℕ → Fraction) → count m r ≡ n → count m c ≡ n → LeavesIfErr m r c w (eliminate_from n m r c w)
left_from zero m r c w er ec = tt
left_from (suc n) m r c w er ec = left_by n m r c w (pivot m r c w) refl er ec (pivot_is_first m r c w) (left_from n m)

pub leaves_if_err : (m : ℕ) (w : ℕ → ℕ → Fraction) → LeavesIfErr m (λ h. true) (λ g. true) w (eliminate m w)
unfolding eliminate
leaves_if_err m w = left_from m m (λ h. true) (λ g. true) w (count_all m) (count_all m)

pub leaves_of : (m p : ℕ) (w : ℕ → ℕ → Fraction) → eliminate m w ≡ Err p → Leaves m (λ h. true) (λ g. true) w p
leaves_of m p w e = subst (LeavesIfErr m (λ h. true) (λ g. true) w) e (leaves_if_err m w)
