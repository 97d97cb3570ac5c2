-- The model of the file, its form, its run and its text, by computation.
use Rattle.std.proofs.Common.{[], ◌∷◌, refl, arith, ◌≡◌}
use Rattle.pami_algebra.specs.Fraction.{gcd}
use Rattle.pami_algebra.specs.Operations.{◌+ᶠ◌, ◌*ᶠ◌, neg_f, of_int, inv_f}
use Rattle.pami_algebra.specs.Size.{bits, size}
use Rattle.pami_linear.specs.Pivoting.{pivot}
use Rattle.pami_frac.specs.Arithmetic.{add_fits, mul_fits, add_outcome, mul_outcome, sub_outcome, div_outcome}
use Rattle.pami_factoring.specs.Factor.{elimination_script}
use Rattle.pami_factoring.specs.Solve.{forward_script, backward_script}
use Rattle.pami_theory.specs.Fresh.{IsFresh}
use Rattle.pami_theory.specs.Start.{starting_basis}
use Rattle.pami_method.specs.Batch.{IsBatch}
use Rattle.pami_method.specs.declared.words.Mode.TheVariants.{Full}
use Rattle.pami_method.specs.Walk.{IsMajor, Optimal as WalkOptimal, IsWalk}
use Rattle.pami_method.specs.Phases.{starting_state, IsRun, in_phase_two}
use Rattle.pami_examples.proofs.FreshTests.{fresh_by_tests, dual_feasible_by_tests}
use Rattle.pami_examples.proofs.Facts.{not_empty}
use Rattle.std.specs.Fmt.{digits}
use Rattle.pami_frac.specs.Printed.{printed}
use Rattle.pami_lines.specs.Line.{text}
use Rattle.pami_text.specs.Record.{run_lines}
use Rattle.pami_frac.specs.BoundText.{bound_outcome}
use Rattle.pami_frac.specs.Decimal.{digits_within, zeros_within, decimal_outcome}
use Rattle.pami_script.specs.Dense.{dense}
use Rattle.pami_mps.specs.Mps.{Mps}
use Rattle.pami_model_form.specs.ModelForm.{model_form}
use Rattle.pami_examples.proofs.FileTests.{read_by_tests}
use Rattle.pami_examples.specs.Words.{usual, behind}
use Rattle.pami_examples.specs.Returning.{returning_file, returning_contents, returning, returning_first_fresh, returning_first, returning_minor_1, returning_second_basis, returning_second_fresh, returning_second, returning_minor_2, returning_third_basis, returning_third_fresh, returning_third, returning_major, returning_record, returning_answer, returning_named, returning_text}

-- ---- the file
pub returning_read : Mps returning_file returning_contents
unfolding digits_within zeros_within decimal_outcome bound_outcome of_int neg_f gcd
returning_read = read_by_tests _ _ refl refl refl refl

pub returning_formed : model_form returning_contents ≡ returning
unfolding dense of_int neg_f gcd
returning_formed = refl

-- ---- the run

returning_fresh_first : IsFresh returning (starting_basis returning) returning_first_fresh
unfolding ◌+ᶠ◌ ◌*ᶠ◌ neg_f of_int inv_f gcd
returning_fresh_first = fresh_by_tests _ _ _ refl refl refl refl

returning_fresh_second : IsFresh returning returning_second_basis returning_second_fresh
unfolding ◌+ᶠ◌ ◌*ᶠ◌ neg_f of_int inv_f gcd
returning_fresh_second = fresh_by_tests _ _ _ refl refl refl refl

returning_fresh_third : IsFresh returning returning_third_basis returning_third_fresh
unfolding ◌+ᶠ◌ ◌*ᶠ◌ neg_f of_int inv_f gcd
returning_fresh_third = fresh_by_tests _ _ _ refl refl refl refl

pub returning_batch : IsBatch returning 100000 returning_first (returning_minor_1 ∷ returning_minor_2 ∷ []) returning_third
unfolding ◌+ᶠ◌ ◌*ᶠ◌ neg_f of_int inv_f gcd bits size
returning_batch = (
  refl,
  refl,
  returning_second,
  record { basis = refl; fresh = returning_fresh_second; weights = refl; count = refl; rows = refl },
  (
    refl,
    refl,
    returning_third,
    record { basis = refl; fresh = returning_fresh_third; weights = refl; count = refl; rows = refl },
    (refl, tt),
  ),
)

pub returning_major_is : IsMajor returning usual (starting_state returning) returning_major
unfolding ◌+ᶠ◌ ◌*ᶠ◌ neg_f of_int inv_f gcd bits size
returning_major_is = record { basis = refl; fresh = returning_fresh_first; weights = refl; count = refl; rows = refl; batch = returning_batch }

returning_walk : IsWalk returning usual 1 Full (starting_state returning) (returning_major ∷ []) (WalkOptimal (behind returning returning_major))
unfolding ◌+ᶠ◌ ◌*ᶠ◌ neg_f of_int inv_f gcd bits size add_fits mul_fits add_outcome mul_outcome sub_outcome div_outcome elimination_script forward_script backward_script pivot
returning_walk = (
  record { numbered = refl; in_mode = refl; major = returning_major_is; infeasible = not_empty _ _; below_limit = λ e. omega arith },
  (refl, (returning_third_fresh, returning_fresh_third, refl)),
)

pub returning_run : IsRun returning usual returning_record returning_answer
unfolding ◌+ᶠ◌ ◌*ᶠ◌ neg_f of_int inv_f gcd bits size add_fits mul_fits add_outcome mul_outcome sub_outcome div_outcome elimination_script forward_script backward_script pivot
returning_run =
    in_phase_two returning_first_fresh (returning_major ∷ []) (WalkOptimal (behind returning returning_major)) returning_answer returning_fresh_first refl (dual_feasible_by_tests returning refl refl) returning_walk (returning_third_fresh, returning_fresh_third, refl)

-- ---- the text

pub returning_written : text (run_lines returning_named usual returning_record returning_answer) ≡ returning_text
unfolding ◌+ᶠ◌ ◌*ᶠ◌ neg_f of_int inv_f gcd bits size add_fits mul_fits add_outcome mul_outcome sub_outcome div_outcome elimination_script forward_script backward_script pivot printed digits
returning_written = refl
