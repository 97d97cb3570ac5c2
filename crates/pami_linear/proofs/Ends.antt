-- Where the elimination ends: a chain of steps, or a right side with no solution.
use Rattle.std.proofs.Common.{◌≡◌, ℕ, zero, suc, ◌<◌, [], ◌∷◌, List, refl, sym, ap, ◌∙◌, arith, Bool, true, Option, Some, None, Result, Ok, Err}
use lib.IntN.{pos}
use lib.Dec.{T}
use Rattle.pami_algebra.specs.Fraction.{Fraction}
use Rattle.pami_algebra.specs.Ring.{var, t0, ◌⊕◌, ◌⊗◌, ⊖}
use Rattle.pami_algebra.specs.Operations.{◌-ᶠ◌, ◌*ᶠ◌, of_int}
use Rattle.pami_algebra.proofs.Laws.{by_ring_f}
use Rattle.pami_algebra.proofs.Field.{one_not_zero}
use Rattle.pami_linear.specs.Active.{but, count, set_at, first_from}
use Rattle.pami_linear.specs.Pivoting.{Pivot, allowed_in, cost_in, pivot, at_pivot, IsFound, IsInside}
use Rattle.pami_linear.specs.Elimination.{EliminationStep, step_of, reduced, multiplier_of, below, more, eliminate_from, eliminate}
use Rattle.pami_linear.specs.Chains.{Solved, IsPivot, ended, goes_on, Unsolved, Outcome}
use Rattle.pami_linear.proofs.Parts.{but_ne, set_same, set_other, part_none, count_but, count_none, count_all, count_some}
use Rattle.pami_linear.proofs.Pivots.{pivot_is_first, pivot_from, none_from}
use Rattle.pami_linear.proofs.Steps.{solved_below}

-- no entry is left in an active row
pub stuck : (m n : ℕ) (r c : ℕ → Bool) (w : ℕ → ℕ → Fraction) → count m r ≡ suc n → IsFound (allowed_in r c w) (cost_in m r c w) (IsInside m) None → Unsolved m r c w
stuck m n r c w e f =
    let s = count_some m n r e in (
      λ h. of_int (pos 1),
      λ x k. one_not_zero
          (sym (part_none m c (λ g. w s.0 g *ᶠ x g) (λ g l t. ap (λ z. z *ᶠ x g) (none_from m r c w f s.0 g s.1 l s.2 t) ∙ by_ring_f (x g ∷ []) (t0 ⊗ var 0) t0 refl)) ∙ k.at s.0 s.1 s.2),
    )

solved_right : (m : ℕ) (r c : ℕ → Bool) (w : ℕ → ℕ → Fraction) (x b d : ℕ → Fraction) → ((h : ℕ) → h < m → T (r h) → b h ≡ d h) → Solved m r c w x b → Solved m r c w x d
solved_right m r c w x b d f e = record { at = λ h l t. e.at h l t ∙ f h l t }

-- so none above, with 0 in the pivot's row
pub unsolved_above : (m : ℕ) (r c : ℕ → Bool) (w : ℕ → ℕ → Fraction) (i p : ℕ) → IsPivot m r c w i p → Unsolved m (but i r) (but p c) (reduced w i p) → Unsolved m r c w
unsolved_above m r c w i p s u =
    let d : ℕ → Fraction = u.0 in
    let b : ℕ → Fraction = set_at i (of_int (pos 0)) d in (
      b,
      λ x k. u.1 x (solved_right m (but i r) (but p c) (reduced w i p) x (below (step_of r c w i p) b) d
          (λ h l t.
          ap (λ z. z -ᶠ multiplier_of w i p h *ᶠ b i) (set_other i h (of_int (pos 0)) d (but_ne i h r t))
          ∙ ap (λ z. d h -ᶠ multiplier_of w i p h *ᶠ z) (set_same i (of_int (pos 0)) d)
          ∙ by_ring_f (d h ∷ multiplier_of w i p h ∷ []) (var 0 ⊕ ⊖ (var 1 ⊗ t0)) (var 0) refl)
          (solved_below m r c w i p x b s k)),
    )

outcome_more : (m : ℕ) (r c : ℕ → Bool) (w : ℕ → ℕ → Fraction) (i p : ℕ) (o : Result (List EliminationStep) ℕ) → IsPivot m r c w i p →
    Outcome m (but i r) (but p c) (reduced w i p) o → Outcome m r c w (more (step_of r c w i p) o)
outcome_more m r c w i p (Ok ss) s u = goes_on r c w (reduced w i p) (step_of r c w i p) ss s (record { rows = λ h l. refl; places = λ g l. refl; kept = λ g l t. refl; multiplier = λ h l t. refl }) (λ h g lh lg th tg. refl) u
outcome_more m r c w i p (Err k) s u = unsolved_above m r c w i p s u

outcome_by : (n m : ℕ) (r c : ℕ → Bool) (w : ℕ → ℕ → Fraction) (o : Option Pivot) → count m r ≡ suc n → count m c ≡ suc n → IsFound (allowed_in r c w) (cost_in m r c w) (IsInside m) o →
    ((r c : ℕ → Bool) (w : ℕ → ℕ → Fraction) → count m r ≡ n → count m c ≡ n → Outcome m r c w (eliminate_from n m r c w)) →
    Outcome m r c w (at_pivot o (Err (first_from m 0 c)) (λ i p. more (step_of r c w i p) (eliminate_from n m (but i r) (but p c) (reduced w i p))))
outcome_by n m r c w None er ec f next = stuck m n r c w er f
outcome_by n m r c w (Some q) er ec f next =
    let s : IsPivot m r c w q.row q.place = pivot_from m r c w q f in
    let dr : count m r ≡ suc (count m (but q.row r)) = count_but m q.row r s.row_low s.row_in in
    let dc : count m c ≡ suc (count m (but q.place c)) = count_but m q.place c s.place_low s.place_in in
    outcome_more m r c w q.row q.place (eliminate_from n m (but q.row r) (but q.place c) (reduced w q.row q.place)) s
    (next (but q.row r) (but q.place c) (reduced w q.row q.place) (omega arith) (omega arith))

pub outcome_from : (n m : ℕ) (r c : ℕ → Bool) (w : ℕ → ℕ → Fraction) → count m r ≡ n → count m c ≡ n → Outcome m r c w (eliminate_from n m r c w)
outcome_from zero m r c w er ec = ended r c w (count_none m r er) (count_none m c ec)
outcome_from (suc n) m r c w er ec = outcome_by n m r c w (pivot m r c w) er ec (pivot_is_first m r c w) (outcome_from n m)

pub outcome : (m : ℕ) (w : ℕ → ℕ → Fraction) → Outcome m (λ h. true) (λ g. true) w (eliminate m w)
unfolding eliminate
outcome m w = outcome_from m m (λ h. true) (λ g. true) w (count_all m) (count_all m)
