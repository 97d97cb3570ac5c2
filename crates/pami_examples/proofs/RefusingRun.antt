-- The model of the file, its form, its run and its text, by computation.
use Rattle.std.proofs.Common.{[], ◌∷◌, refl, arith, ◌≡◌}
use Rattle.pami_algebra.specs.Fraction.{gcd}
use Rattle.pami_algebra.specs.Operations.{◌+ᶠ◌, ◌*ᶠ◌, neg_f, of_int, inv_f}
use Rattle.pami_algebra.specs.Size.{bits, size}
use Rattle.pami_linear.specs.Pivoting.{pivot}
use Rattle.pami_frac.specs.Arithmetic.{add_fits, mul_fits, add_outcome, mul_outcome, sub_outcome, div_outcome}
use Rattle.pami_factoring.specs.Factor.{elimination_script}
use Rattle.pami_factoring.specs.Solve.{forward_script, backward_script}
use Rattle.pami_theory.specs.Fresh.{IsFresh}
use Rattle.pami_theory.specs.Start.{starting_basis}
use Rattle.pami_method.specs.Batch.{IsBatch}
use Rattle.pami_method.specs.declared.words.Mode.TheVariants.{Full}
use Rattle.pami_method.specs.Walk.{IsMajor, Optimal as WalkOptimal, IsWalk}
use Rattle.pami_method.specs.Phases.{starting_state, IsRun, in_phase_two}
use Rattle.pami_examples.proofs.FreshTests.{fresh_by_tests, dual_feasible_by_tests}
use Rattle.pami_examples.proofs.Facts.{not_empty}
use Rattle.std.specs.Fmt.{digits}
use Rattle.pami_frac.specs.Printed.{printed}
use Rattle.pami_lines.specs.Line.{text}
use Rattle.pami_text.specs.Record.{run_lines}
use Rattle.pami_frac.specs.BoundText.{bound_outcome}
use Rattle.pami_frac.specs.Decimal.{digits_within, zeros_within, decimal_outcome}
use Rattle.pami_script.specs.Dense.{dense}
use Rattle.pami_mps.specs.Mps.{Mps}
use Rattle.pami_model_form.specs.ModelForm.{model_form}
use Rattle.pami_examples.proofs.FileTests.{read_by_tests}
use Rattle.pami_examples.specs.Words.{usual, behind}
use Rattle.pami_examples.specs.Refusing.{refusing_file, refusing_contents, refusing, refusing_first_fresh, refusing_first, refusing_minor_1, refusing_second_basis, refusing_second_fresh, refusing_second, refusing_major, refusing_again_first, refusing_again_minor_1, refusing_again_second, refusing_major_2, refusing_record, refusing_answer, refusing_named, refusing_text}

-- ---- the file
pub refusing_read : Mps refusing_file refusing_contents
unfolding digits_within zeros_within decimal_outcome bound_outcome of_int neg_f gcd
refusing_read = read_by_tests _ _ refl refl refl refl

pub refusing_formed : model_form refusing_contents ≡ refusing
unfolding dense of_int neg_f gcd
refusing_formed = refl

-- ---- the run

refusing_fresh_first : IsFresh refusing (starting_basis refusing) refusing_first_fresh
unfolding ◌+ᶠ◌ ◌*ᶠ◌ neg_f of_int inv_f gcd
refusing_fresh_first = fresh_by_tests _ _ _ refl refl refl refl

refusing_fresh_second : IsFresh refusing refusing_second_basis refusing_second_fresh
unfolding ◌+ᶠ◌ ◌*ᶠ◌ neg_f of_int inv_f gcd
refusing_fresh_second = fresh_by_tests _ _ _ refl refl refl refl

pub refusing_batch : IsBatch refusing 100000 refusing_first (refusing_minor_1 ∷ []) refusing_second
unfolding ◌+ᶠ◌ ◌*ᶠ◌ neg_f of_int inv_f gcd bits size
refusing_batch = (
  refl,
  refl,
  refusing_second,
  record { basis = refl; fresh = refusing_fresh_second; weights = refl; count = refl; rows = refl },
  (refl, tt),
)

pub refusing_major_is : IsMajor refusing usual (starting_state refusing) refusing_major
unfolding ◌+ᶠ◌ ◌*ᶠ◌ neg_f of_int inv_f gcd bits size
refusing_major_is = record { basis = refl; fresh = refusing_fresh_first; weights = refl; count = refl; rows = refl; batch = refusing_batch }

pub refusing_again_batch : IsBatch refusing 100000 refusing_again_first (refusing_again_minor_1 ∷ []) refusing_again_second
unfolding ◌+ᶠ◌ ◌*ᶠ◌ neg_f of_int inv_f gcd bits size
refusing_again_batch = (
  refl,
  refl,
  refusing_again_second,
  record { basis = refl; fresh = refusing_fresh_second; weights = refl; count = refl; rows = refl },
  (refl, tt),
)

pub refusing_major_2_is : IsMajor refusing usual (starting_state refusing) refusing_major_2
unfolding ◌+ᶠ◌ ◌*ᶠ◌ neg_f of_int inv_f gcd bits size
refusing_major_2_is = record { basis = refl; fresh = refusing_fresh_first; weights = refl; count = refl; rows = refl; batch = refusing_again_batch }

refusing_walk : IsWalk refusing usual 1 Full (starting_state refusing) (refusing_major ∷ refusing_major_2 ∷ []) (WalkOptimal (behind refusing refusing_major_2))
unfolding ◌+ᶠ◌ ◌*ᶠ◌ neg_f of_int inv_f gcd bits size add_fits mul_fits add_outcome mul_outcome sub_outcome div_outcome elimination_script forward_script backward_script pivot
refusing_walk = (
  record { numbered = refl; in_mode = refl; major = refusing_major_is; infeasible = not_empty _ _; below_limit = λ e. omega arith },
  (
    record { numbered = refl; in_mode = refl; major = refusing_major_2_is; infeasible = not_empty _ _; below_limit = λ e. omega arith },
    (refl, (refusing_second_fresh, refusing_fresh_second, refl)),
  ),
)

pub refusing_run : IsRun refusing usual refusing_record refusing_answer
unfolding ◌+ᶠ◌ ◌*ᶠ◌ neg_f of_int inv_f gcd bits size add_fits mul_fits add_outcome mul_outcome sub_outcome div_outcome elimination_script forward_script backward_script pivot
refusing_run =
    in_phase_two refusing_first_fresh (refusing_major ∷ refusing_major_2 ∷ []) (WalkOptimal (behind refusing refusing_major_2)) refusing_answer refusing_fresh_first refl (dual_feasible_by_tests refusing refl refl) refusing_walk (refusing_second_fresh, refusing_fresh_second, refl)

-- ---- the text

pub refusing_written : text (run_lines refusing_named usual refusing_record refusing_answer) ≡ refusing_text
unfolding ◌+ᶠ◌ ◌*ᶠ◌ neg_f of_int inv_f gcd bits size add_fits mul_fits add_outcome mul_outcome sub_outcome div_outcome elimination_script forward_script backward_script pivot printed digits
refusing_written = refl
