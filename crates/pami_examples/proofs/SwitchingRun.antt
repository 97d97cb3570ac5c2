-- The run of the model, and its text, by computation.
use Rattle.std.proofs.Common.{[], ◌∷◌, refl, arith, ◌≡◌}
use Rattle.pami_algebra.specs.Fraction.{gcd}
use Rattle.pami_algebra.specs.Operations.{◌+ᶠ◌, ◌*ᶠ◌, neg_f, of_int, inv_f}
use Rattle.pami_algebra.specs.Size.{bits, size}
use Rattle.pami_linear.specs.Pivoting.{pivot}
use Rattle.pami_frac.specs.Arithmetic.{add_fits, mul_fits, add_outcome, mul_outcome, sub_outcome, div_outcome}
use Rattle.pami_factoring.specs.Factor.{elimination_script}
use Rattle.pami_factoring.specs.Solve.{forward_script, backward_script}
use Rattle.pami_theory.specs.Fresh.{IsFresh, IsDualFeasible}
use Rattle.pami_theory.specs.Start.{starting_basis}
use Rattle.pami_method.specs.Batch.{IsBatch}
use Rattle.pami_method.specs.declared.words.Mode.TheVariants.{Full}
use Rattle.pami_method.specs.Walk.{IsMajor, Optimal as WalkOptimal, IsWalk}
use Rattle.pami_method.specs.Phases.{starting_state, IsRun, IsPhaseOne, IsSwitch, in_both}
use Rattle.pami_examples.proofs.FreshTests.{fresh_by_tests, signed_by_tests}
use Rattle.pami_examples.proofs.Facts.{not_empty}
use Rattle.std.proofs.lemmas.Option.{none-some}
use Rattle.pami_theory.specs.declared.words.Stand.TheVariants.{Basic, Upper}
use Rattle.pami_theory.specs.Basis.{IsBasis}
use Rattle.pami_theory.specs.Boxes.{boxes_of, CanBeDualFeasible}
use Rattle.pami_theory.proofs.Signs.{dual_feasible_start}
use Rattle.pami_theory.proofs.Starts.{start_is_basis}
use Rattle.pami_theory.proofs.Switched.{switch_is_basis}
use Rattle.pami_method.proofs.Batches.{batch_ends_fresh}
use Rattle.std.specs.Fmt.{digits}
use Rattle.pami_frac.specs.Printed.{printed}
use Rattle.pami_lines.specs.Line.{text}
use Rattle.pami_text.specs.Record.{run_lines}
use Rattle.pami_examples.proofs.Facts.{not_below}
use Rattle.pami_examples.specs.Words.{usual, behind}
use Rattle.pami_examples.specs.Switching.{switching, switching_own_fresh, switching_first_fresh, switching_first, switching_minor, switching_second_basis, switching_second_fresh, switching_second, switching_major, switching_third_fresh, switching_state, switching_record, switching_answer, switching_named, switching_text}

-- ---- the run

switching_own : IsFresh switching (starting_basis switching) switching_own_fresh
unfolding ◌+ᶠ◌ ◌*ᶠ◌ neg_f of_int inv_f gcd
switching_own = fresh_by_tests _ _ _ refl refl refl refl

switching_in_boxes : IsFresh (boxes_of switching) (starting_basis (boxes_of switching)) switching_first_fresh
unfolding ◌+ᶠ◌ ◌*ᶠ◌ neg_f of_int inv_f gcd
switching_in_boxes = fresh_by_tests _ _ _ refl refl refl refl

switching_behind : IsFresh (boxes_of switching) switching_second_basis switching_second_fresh
unfolding ◌+ᶠ◌ ◌*ᶠ◌ neg_f of_int inv_f gcd
switching_behind = fresh_by_tests _ _ _ refl refl refl refl

switching_switched : IsFresh switching switching_second_basis switching_third_fresh
unfolding ◌+ᶠ◌ ◌*ᶠ◌ neg_f of_int inv_f gcd
switching_switched = fresh_by_tests _ _ _ refl refl refl refl

switching_unsigned : ¬ IsDualFeasible switching (starting_basis switching)
unfolding ◌+ᶠ◌ ◌*ᶠ◌ neg_f of_int inv_f gcd
switching_unsigned h = not_below ((dual_feasible_start switching).0 h 0 (omega arith) (λ k. none-some k.0 k.2))

switching_batch : IsBatch (boxes_of switching) 100000 switching_first (switching_minor ∷ []) switching_second
unfolding ◌+ᶠ◌ ◌*ᶠ◌ neg_f of_int inv_f gcd bits size
switching_batch = (refl, refl, switching_second, record { basis = refl; fresh = switching_behind; weights = refl; count = refl; rows = refl }, (refl, tt))

switching_major_is : IsMajor (boxes_of switching) usual (starting_state (boxes_of switching)) switching_major
unfolding ◌+ᶠ◌ ◌*ᶠ◌ neg_f of_int inv_f gcd bits size
switching_major_is = record { basis = refl; fresh = switching_in_boxes; weights = refl; count = refl; rows = refl; batch = switching_batch }

switching_walk : IsWalk (boxes_of switching) usual 1 Full (starting_state (boxes_of switching)) (switching_major ∷ []) (WalkOptimal (behind (boxes_of switching) switching_major))
unfolding ◌+ᶠ◌ ◌*ᶠ◌ neg_f of_int inv_f gcd bits size add_fits mul_fits add_outcome mul_outcome sub_outcome div_outcome elimination_script forward_script backward_script pivot
switching_walk = (
  record { numbered = refl; in_mode = refl; major = switching_major_is; infeasible = not_empty _ _; below_limit = λ e. omega arith },
  (refl, (switching_second_fresh, switching_behind, refl)),
)

switching_phase_one : IsPhaseOne switching usual (switching_major ∷ []) (WalkOptimal (behind (boxes_of switching) switching_major))
unfolding ◌+ᶠ◌ ◌*ᶠ◌ neg_f of_int inv_f gcd bits size add_fits mul_fits add_outcome mul_outcome sub_outcome div_outcome elimination_script forward_script backward_script pivot
switching_phase_one = record { fresh = switching_first_fresh; fresh_is = switching_in_boxes; fits = refl; walk = switching_walk }

switching_basis_is : IsBasis (boxes_of switching) switching_second_basis
switching_basis_is =
    (batch_ends_fresh (boxes_of switching) 100000 switching_first (switching_minor ∷ []) switching_second (start_is_basis (boxes_of switching)) switching_in_boxes switching_batch).0

switching_feasible : CanBeDualFeasible switching switching_second_basis
unfolding ◌+ᶠ◌ ◌*ᶠ◌ neg_f of_int inv_f gcd
switching_feasible = record {
  stands = Basic ∷ Upper ∷ [];
  basis = switch_is_basis switching switching_second_basis switching_second_fresh.reduced switching_basis_is;
  signed = signed_by_tests switching switching_second_basis switching_third_fresh switching_switched refl;
}

switching_switch : IsSwitch switching (behind (boxes_of switching) switching_major) switching_second_basis switching_third_fresh
unfolding ◌+ᶠ◌ ◌*ᶠ◌ neg_f of_int inv_f gcd bits size add_fits mul_fits add_outcome mul_outcome sub_outcome div_outcome elimination_script forward_script backward_script pivot
switching_switch = record { boxed = switching_second_fresh; boxed_is = switching_behind; feasible = switching_feasible; basis = refl; fresh = switching_switched }

pub switching_run : IsRun switching usual switching_record switching_answer
unfolding ◌+ᶠ◌ ◌*ᶠ◌ neg_f of_int inv_f gcd bits size add_fits mul_fits add_outcome mul_outcome sub_outcome div_outcome elimination_script forward_script backward_script pivot
switching_run =
    in_both switching_own_fresh (switching_major ∷ []) (behind (boxes_of switching) switching_major) switching_second_basis switching_third_fresh [] (WalkOptimal switching_state) switching_answer
    switching_own refl switching_unsigned switching_phase_one switching_switch refl
    (refl, (switching_third_fresh, switching_switched, refl)) (switching_third_fresh, switching_switched, refl)

-- ---- the text

pub switching_written : text (run_lines switching_named usual switching_record switching_answer) ≡ switching_text
unfolding ◌+ᶠ◌ ◌*ᶠ◌ neg_f of_int inv_f gcd bits size add_fits mul_fits add_outcome mul_outcome sub_outcome div_outcome elimination_script forward_script backward_script pivot printed digits
switching_written = refl
