-- The run of the model, and its text, by computation.
use Rattle.std.proofs.Common.{[], ◌∷◌, refl, arith, ◌≡◌, ℕ, ◌<◌, List, sym, subst}
use Rattle.pami_algebra.specs.Fraction.{gcd, Fraction}
use Rattle.pami_algebra.specs.Operations.{◌+ᶠ◌, ◌*ᶠ◌, neg_f, of_int, inv_f, ◌≤ᶠ◌}
use Rattle.pami_algebra.specs.Size.{bits, size}
use Rattle.pami_linear.specs.Pivoting.{pivot}
use Rattle.pami_frac.specs.Arithmetic.{add_fits, mul_fits, add_outcome, mul_outcome, sub_outcome, div_outcome}
use Rattle.pami_factoring.specs.Factor.{elimination_script}
use Rattle.pami_factoring.specs.Solve.{forward_script, backward_script}
use Rattle.pami_theory.specs.Fresh.{IsFresh, AreReducedCosts, IsSignedFor, IsDualFeasible}
use Rattle.pami_theory.specs.Start.{starting_basis}
use Rattle.pami_method.specs.Batch.{IsBatch}
use Rattle.pami_method.specs.declared.words.Mode.TheVariants.{Full}
use Rattle.pami_method.specs.Walk.{IsMajor, Optimal as WalkOptimal, IsWalk}
use Rattle.pami_method.specs.Phases.{starting_state, IsRun, IsPhaseOne, dual_infeasible}
use Rattle.pami_examples.proofs.FreshTests.{fresh_by_tests}
use Rattle.pami_examples.proofs.Facts.{not_empty}
use Rattle.std.proofs.lemmas.Option.{none-some}
use Rattle.pami_linear.specs.Lists.{get}
use Rattle.pami_theory.specs.Form.{limits, row_variable, zero_f}
use Rattle.pami_theory.specs.declared.words.Stand.{Stand}
use Rattle.pami_theory.specs.declared.words.Stand.TheVariants.{Basic, Lower, Upper, Zero}
use Rattle.pami_theory.specs.Basis.{Basis, head_at, stand_at, StandsAt, IsBasis}
use Rattle.pami_theory.specs.Boxes.{boxes_of, CanBeDualFeasible}
use Rattle.pami_theory.proofs.Signs.{dual_feasible_start}
use Rattle.pami_theory.proofs.Solved.{reduced_only, fresh_regular}
use Rattle.std.specs.Fmt.{digits}
use Rattle.pami_frac.specs.Printed.{printed}
use Rattle.pami_lines.specs.Line.{text}
use Rattle.pami_text.specs.Record.{run_lines}
use Rattle.pami_examples.proofs.Facts.{not_below}
use Rattle.pami_examples.specs.Words.{whole, minus, usual, behind}
use Rattle.pami_examples.specs.Unbounded.{unbounded, unbounded_own_fresh, unbounded_first_fresh, unbounded_first, unbounded_minor, unbounded_second_basis, unbounded_second_fresh, unbounded_second, unbounded_major, unbounded_record, unbounded_answer, unbounded_named, unbounded_text}

-- ---- the run

unbounded_own : IsFresh unbounded (starting_basis unbounded) unbounded_own_fresh
unfolding ◌+ᶠ◌ ◌*ᶠ◌ neg_f of_int inv_f gcd
unbounded_own = fresh_by_tests _ _ _ refl refl refl refl

unbounded_in_boxes : IsFresh (boxes_of unbounded) (starting_basis (boxes_of unbounded)) unbounded_first_fresh
unfolding ◌+ᶠ◌ ◌*ᶠ◌ neg_f of_int inv_f gcd
unbounded_in_boxes = fresh_by_tests _ _ _ refl refl refl refl

unbounded_behind : IsFresh (boxes_of unbounded) unbounded_second_basis unbounded_second_fresh
unfolding ◌+ᶠ◌ ◌*ᶠ◌ neg_f of_int inv_f gcd
unbounded_behind = fresh_by_tests _ _ _ refl refl refl refl

unbounded_unsigned : ¬ IsDualFeasible unbounded (starting_basis unbounded)
unfolding ◌+ᶠ◌ ◌*ᶠ◌ neg_f of_int inv_f gcd
unbounded_unsigned h = not_below ((dual_feasible_start unbounded).0 h 0 (omega arith) (λ k. none-some k.0 k.2))

unbounded_batch : IsBatch (boxes_of unbounded) 100000 unbounded_first (unbounded_minor ∷ []) unbounded_second
unfolding ◌+ᶠ◌ ◌*ᶠ◌ neg_f of_int inv_f gcd bits size
unbounded_batch = (refl, refl, unbounded_second, record { basis = refl; fresh = unbounded_behind; weights = refl; count = refl; rows = refl }, (refl, tt))

unbounded_major_is : IsMajor (boxes_of unbounded) usual (starting_state (boxes_of unbounded)) unbounded_major
unfolding ◌+ᶠ◌ ◌*ᶠ◌ neg_f of_int inv_f gcd bits size
unbounded_major_is = record { basis = refl; fresh = unbounded_in_boxes; weights = refl; count = refl; rows = refl; batch = unbounded_batch }

unbounded_walk : IsWalk (boxes_of unbounded) usual 1 Full (starting_state (boxes_of unbounded)) (unbounded_major ∷ []) (WalkOptimal (behind (boxes_of unbounded) unbounded_major))
unfolding ◌+ᶠ◌ ◌*ᶠ◌ neg_f of_int inv_f gcd bits size add_fits mul_fits add_outcome mul_outcome sub_outcome div_outcome elimination_script forward_script backward_script pivot
unbounded_walk = (
  record { numbered = refl; in_mode = refl; major = unbounded_major_is; infeasible = not_empty _ _; below_limit = λ e. omega arith },
  (refl, (unbounded_second_fresh, unbounded_behind, refl)),
)

unbounded_phase_one : IsPhaseOne unbounded usual (unbounded_major ∷ []) (WalkOptimal (behind (boxes_of unbounded) unbounded_major))
unfolding ◌+ᶠ◌ ◌*ᶠ◌ neg_f of_int inv_f gcd bits size add_fits mul_fits add_outcome mul_outcome sub_outcome div_outcome elimination_script forward_script backward_script pivot
unbounded_phase_one = record { fresh = unbounded_first_fresh; fresh_is = unbounded_in_boxes; fits = refl; walk = unbounded_walk }

-- with the head of the last basis, x stands at its lower bound in the form itself, and its reduced cost is below 0
abbrev on_own_bounds : List Stand → Basis
on_own_bounds stands = record { head = 1 ∷ []; stands = stands }

column_not_basic : (stands : List Stand) → IsBasis unbounded (on_own_bounds stands) → ¬ (stand_at (on_own_bounds stands) 0 ≡ Basic)
column_not_basic stands h e =
    let p = h.placed 0 (omega arith) e in
    let l : p.0 < 1 = p.1 in
    let z : p.0 ≡ 0 = omega arith in
    let n : ◌≡◌ {A = ℕ} 1 0 = subst (λ k. head_at (on_own_bounds stands) k ≡ 0) z p.2 in
    omega arith

stands_lower : (s : Stand) (value : Fraction) → ¬ (s ≡ Basic) → StandsAt (limits unbounded 0) s value → s ≡ Lower
stands_lower Basic value n h = absurd (n refl)
stands_lower Lower value n h = refl
stands_lower Upper value n h = absurd (none-some value h)
stands_lower Zero value n h = absurd (none-some (whole 0) (sym h.0))

same_costs : (stands : List Stand) → AreReducedCosts unbounded (on_own_bounds stands) (λ i. get unbounded_second_fresh.reduced (row_variable unbounded i)) (get unbounded_second_fresh.reduced)
same_costs stands = record { basic = unbounded_behind.reduced.basic; reduced = unbounded_behind.reduced.reduced }

unbounded_infeasible : ¬ CanBeDualFeasible unbounded unbounded_second_basis
unfolding ◌+ᶠ◌ ◌*ᶠ◌ neg_f of_int inv_f gcd
unbounded_infeasible h =
    let b = on_own_bounds h.stands in
    let at = h.basis.stands 0 (omega arith) in
    let lower : stand_at b 0 ≡ Lower = stands_lower (stand_at b 0) at.0 (column_not_basic h.stands h.basis) at.1 in
    let cost : h.signed.d 0 ≡ minus 1 =
    reduced_only unbounded b h.signed.y h.signed.d (λ i. get unbounded_second_fresh.reduced (row_variable unbounded i)) (get unbounded_second_fresh.reduced)
    (fresh_regular (boxes_of unbounded) unbounded_second_basis unbounded_second_fresh unbounded_behind) h.signed.costs (same_costs h.stands) 0 (omega arith) in
    let sign : IsSignedFor (stand_at b 0) (h.signed.d 0) = h.signed.signed 0 (omega arith) (λ k. none-some k.0 k.2) in
    not_below (subst (λ d. zero_f ≤ᶠ d) cost (subst (λ s. IsSignedFor s (h.signed.d 0)) lower sign))

pub unbounded_run : IsRun unbounded usual unbounded_record unbounded_answer
unfolding ◌+ᶠ◌ ◌*ᶠ◌ neg_f of_int inv_f gcd bits size add_fits mul_fits add_outcome mul_outcome sub_outcome div_outcome elimination_script forward_script backward_script pivot
unbounded_run =
    dual_infeasible unbounded_own_fresh unbounded_second_fresh (unbounded_major ∷ []) (behind (boxes_of unbounded) unbounded_major)
    unbounded_own refl unbounded_unsigned unbounded_phase_one unbounded_infeasible unbounded_behind

-- ---- the text

pub unbounded_written : text (run_lines unbounded_named usual unbounded_record unbounded_answer) ≡ unbounded_text
unfolding ◌+ᶠ◌ ◌*ᶠ◌ neg_f of_int inv_f gcd bits size add_fits mul_fits add_outcome mul_outcome sub_outcome div_outcome elimination_script forward_script backward_script pivot printed digits
unbounded_written = refl
