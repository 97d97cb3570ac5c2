-- The run of the model, and its text, by computation.
use Rattle.std.proofs.Common.{[], ◌∷◌, refl, arith, ◌≡◌}
use Rattle.pami_algebra.specs.Fraction.{gcd}
use Rattle.pami_algebra.specs.Operations.{◌+ᶠ◌, ◌*ᶠ◌, neg_f, of_int, inv_f}
use Rattle.pami_algebra.specs.Size.{bits, size}
use Rattle.pami_linear.specs.Pivoting.{pivot}
use Rattle.pami_frac.specs.Arithmetic.{add_fits, mul_fits, add_outcome, mul_outcome, sub_outcome, div_outcome}
use Rattle.pami_factoring.specs.Factor.{elimination_script}
use Rattle.pami_factoring.specs.Solve.{forward_script, backward_script}
use Rattle.pami_theory.specs.Fresh.{IsFresh, IsDualFeasible}
use Rattle.pami_theory.specs.Start.{starting_basis}
use Rattle.pami_method.specs.Batch.{IsBatch}
use Rattle.pami_method.specs.declared.words.Mode.TheVariants.{Full}
use Rattle.pami_method.specs.Walk.{IsMajor, Optimal as WalkOptimal, IsWalk}
use Rattle.pami_method.specs.Phases.{starting_state, IsRun, IsPhaseOne, IsSwitch, in_both}
use Rattle.pami_examples.proofs.FreshTests.{fresh_by_tests, signed_by_tests}
use Rattle.pami_examples.proofs.Facts.{not_empty}
use Rattle.std.proofs.lemmas.Option.{none-some}
use Rattle.pami_theory.specs.declared.words.Stand.TheVariants.{Basic, Lower, Upper}
use Rattle.pami_theory.specs.Basis.{IsBasis}
use Rattle.pami_theory.specs.Boxes.{boxes_of, CanBeDualFeasible}
use Rattle.pami_theory.proofs.Signs.{dual_feasible_start}
use Rattle.pami_theory.proofs.Starts.{start_is_basis}
use Rattle.pami_theory.proofs.Switched.{switch_is_basis}
use Rattle.pami_method.proofs.Batches.{batch_ends_fresh}
use Rattle.std.specs.Fmt.{digits}
use Rattle.pami_frac.specs.Printed.{printed}
use Rattle.pami_lines.specs.Line.{text}
use Rattle.pami_text.specs.Record.{run_lines}
use Rattle.pami_frac.specs.BoundText.{bound_outcome}
use Rattle.pami_frac.specs.Decimal.{digits_within, zeros_within, decimal_outcome}
use Rattle.pami_script.specs.Dense.{dense}
use Rattle.pami_mps.specs.Mps.{Mps}
use Rattle.pami_model_form.specs.ModelForm.{model_form}
use Rattle.pami_examples.proofs.FileTests.{read_by_tests}
use Rattle.pami_examples.proofs.Facts.{not_below}
use Rattle.pami_examples.specs.Words.{usual, behind}
use Rattle.pami_examples.specs.Continuing.{continuing_file, continuing_contents, continuing, continuing_own_fresh, continuing_first_fresh, continuing_first, continuing_minor_1, continuing_second_basis, continuing_second_fresh, continuing_second, continuing_major_1, continuing_third_fresh, continuing_state, continuing_third, continuing_minor_2, continuing_fourth_basis, continuing_fourth_fresh, continuing_fourth, continuing_major_2, continuing_record, continuing_end, continuing_answer, continuing_named, continuing_text}

-- ---- the file
pub continuing_read : Mps continuing_file continuing_contents
unfolding digits_within zeros_within decimal_outcome bound_outcome of_int neg_f gcd
continuing_read = read_by_tests _ _ refl refl refl refl

pub continuing_formed : model_form continuing_contents ≡ continuing
unfolding dense of_int neg_f gcd
continuing_formed = refl

-- ---- the run

continuing_own : IsFresh continuing (starting_basis continuing) continuing_own_fresh
unfolding ◌+ᶠ◌ ◌*ᶠ◌ neg_f of_int inv_f gcd
continuing_own = fresh_by_tests _ _ _ refl refl refl refl

continuing_in_boxes : IsFresh (boxes_of continuing) (starting_basis (boxes_of continuing)) continuing_first_fresh
unfolding ◌+ᶠ◌ ◌*ᶠ◌ neg_f of_int inv_f gcd
continuing_in_boxes = fresh_by_tests _ _ _ refl refl refl refl

continuing_behind : IsFresh (boxes_of continuing) continuing_second_basis continuing_second_fresh
unfolding ◌+ᶠ◌ ◌*ᶠ◌ neg_f of_int inv_f gcd
continuing_behind = fresh_by_tests _ _ _ refl refl refl refl

continuing_switched : IsFresh continuing continuing_second_basis continuing_third_fresh
unfolding ◌+ᶠ◌ ◌*ᶠ◌ neg_f of_int inv_f gcd
continuing_switched = fresh_by_tests _ _ _ refl refl refl refl

continuing_last : IsFresh continuing continuing_fourth_basis continuing_fourth_fresh
unfolding ◌+ᶠ◌ ◌*ᶠ◌ neg_f of_int inv_f gcd
continuing_last = fresh_by_tests _ _ _ refl refl refl refl

continuing_unsigned : ¬ IsDualFeasible continuing (starting_basis continuing)
unfolding ◌+ᶠ◌ ◌*ᶠ◌ neg_f of_int inv_f gcd
continuing_unsigned h = not_below ((dual_feasible_start continuing).0 h 0 (omega arith) (λ k. none-some k.0 k.2))

-- phase one
continuing_batch_1 : IsBatch (boxes_of continuing) 100000 continuing_first (continuing_minor_1 ∷ []) continuing_second
unfolding ◌+ᶠ◌ ◌*ᶠ◌ neg_f of_int inv_f gcd bits size
continuing_batch_1 = (refl, refl, continuing_second, record { basis = refl; fresh = continuing_behind; weights = refl; count = refl; rows = refl }, (refl, tt))

continuing_major_1_is : IsMajor (boxes_of continuing) usual (starting_state (boxes_of continuing)) continuing_major_1
unfolding ◌+ᶠ◌ ◌*ᶠ◌ neg_f of_int inv_f gcd bits size
continuing_major_1_is = record { basis = refl; fresh = continuing_in_boxes; weights = refl; count = refl; rows = refl; batch = continuing_batch_1 }

continuing_walk_1 : IsWalk (boxes_of continuing) usual 1 Full (starting_state (boxes_of continuing)) (continuing_major_1 ∷ []) (WalkOptimal (behind (boxes_of continuing) continuing_major_1))
unfolding ◌+ᶠ◌ ◌*ᶠ◌ neg_f of_int inv_f gcd bits size add_fits mul_fits add_outcome mul_outcome sub_outcome div_outcome elimination_script forward_script backward_script pivot
continuing_walk_1 = (
  record { numbered = refl; in_mode = refl; major = continuing_major_1_is; infeasible = not_empty _ _; below_limit = λ e. omega arith },
  (refl, (continuing_second_fresh, continuing_behind, refl)),
)

continuing_phase_one : IsPhaseOne continuing usual (continuing_major_1 ∷ []) (WalkOptimal (behind (boxes_of continuing) continuing_major_1))
unfolding ◌+ᶠ◌ ◌*ᶠ◌ neg_f of_int inv_f gcd bits size add_fits mul_fits add_outcome mul_outcome sub_outcome div_outcome elimination_script forward_script backward_script pivot
continuing_phase_one = record { fresh = continuing_first_fresh; fresh_is = continuing_in_boxes; fits = refl; walk = continuing_walk_1 }

-- the switch
continuing_basis_is : IsBasis (boxes_of continuing) continuing_second_basis
continuing_basis_is =
    (batch_ends_fresh (boxes_of continuing) 100000 continuing_first (continuing_minor_1 ∷ []) continuing_second (start_is_basis (boxes_of continuing)) continuing_in_boxes continuing_batch_1).0

continuing_feasible : CanBeDualFeasible continuing continuing_second_basis
unfolding ◌+ᶠ◌ ◌*ᶠ◌ neg_f of_int inv_f gcd
continuing_feasible = record {
  stands = Basic ∷ Lower ∷ Upper ∷ [];
  basis = switch_is_basis continuing continuing_second_basis continuing_second_fresh.reduced continuing_basis_is;
  signed = signed_by_tests continuing continuing_second_basis continuing_third_fresh continuing_switched refl;
}

continuing_switch : IsSwitch continuing (behind (boxes_of continuing) continuing_major_1) continuing_second_basis continuing_third_fresh
unfolding ◌+ᶠ◌ ◌*ᶠ◌ neg_f of_int inv_f gcd bits size add_fits mul_fits add_outcome mul_outcome sub_outcome div_outcome elimination_script forward_script backward_script pivot
continuing_switch = record { boxed = continuing_second_fresh; boxed_is = continuing_behind; feasible = continuing_feasible; basis = refl; fresh = continuing_switched }

-- phase two
continuing_batch_2 : IsBatch continuing 100000 continuing_third (continuing_minor_2 ∷ []) continuing_fourth
unfolding ◌+ᶠ◌ ◌*ᶠ◌ neg_f of_int inv_f gcd bits size
continuing_batch_2 = (refl, refl, continuing_fourth, record { basis = refl; fresh = continuing_last; weights = refl; count = refl; rows = refl }, (refl, tt))

continuing_major_2_is : IsMajor continuing usual continuing_state continuing_major_2
unfolding ◌+ᶠ◌ ◌*ᶠ◌ neg_f of_int inv_f gcd bits size
continuing_major_2_is = record { basis = refl; fresh = continuing_switched; weights = refl; count = refl; rows = refl; batch = continuing_batch_2 }

continuing_walk_2 : IsWalk continuing usual 2 Full continuing_state (continuing_major_2 ∷ []) (WalkOptimal continuing_end)
unfolding ◌+ᶠ◌ ◌*ᶠ◌ neg_f of_int inv_f gcd bits size add_fits mul_fits add_outcome mul_outcome sub_outcome div_outcome elimination_script forward_script backward_script pivot
continuing_walk_2 = (
  record { numbered = refl; in_mode = refl; major = continuing_major_2_is; infeasible = not_empty _ _; below_limit = λ e. omega arith },
  (refl, (continuing_fourth_fresh, continuing_last, refl)),
)

pub continuing_run : IsRun continuing usual continuing_record continuing_answer
unfolding ◌+ᶠ◌ ◌*ᶠ◌ neg_f of_int inv_f gcd bits size add_fits mul_fits add_outcome mul_outcome sub_outcome div_outcome elimination_script forward_script backward_script pivot
continuing_run =
    in_both continuing_own_fresh (continuing_major_1 ∷ []) (behind (boxes_of continuing) continuing_major_1) continuing_second_basis continuing_third_fresh (continuing_major_2 ∷ []) (WalkOptimal continuing_end) continuing_answer
    continuing_own refl continuing_unsigned continuing_phase_one continuing_switch refl
    continuing_walk_2 (continuing_fourth_fresh, continuing_last, refl)

-- ---- the text

pub continuing_written : text (run_lines continuing_named usual continuing_record continuing_answer) ≡ continuing_text
unfolding ◌+ᶠ◌ ◌*ᶠ◌ neg_f of_int inv_f gcd bits size add_fits mul_fits add_outcome mul_outcome sub_outcome div_outcome elimination_script forward_script backward_script pivot printed digits
continuing_written = refl
