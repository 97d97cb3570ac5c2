-- The model of the file, its form, its run and its text, by computation.
use Rattle.std.proofs.Common.{[], ◌∷◌, refl, arith, ◌≡◌}
use Rattle.pami_algebra.specs.Fraction.{gcd}
use Rattle.pami_algebra.specs.Operations.{◌+ᶠ◌, ◌*ᶠ◌, neg_f, of_int, inv_f}
use Rattle.pami_algebra.specs.Size.{bits, size}
use Rattle.pami_linear.specs.Pivoting.{pivot}
use Rattle.pami_frac.specs.Arithmetic.{add_fits, mul_fits, add_outcome, mul_outcome, sub_outcome, div_outcome}
use Rattle.pami_factoring.specs.Factor.{elimination_script}
use Rattle.pami_factoring.specs.Solve.{forward_script, backward_script}
use Rattle.pami_theory.specs.Fresh.{IsFresh}
use Rattle.pami_theory.specs.Start.{starting_basis}
use Rattle.pami_method.specs.Batch.{IsBatch}
use Rattle.pami_method.specs.declared.words.Mode.TheVariants.{Full}
use Rattle.pami_method.specs.Walk.{IsMajor, Optimal as WalkOptimal, IsWalk}
use Rattle.pami_method.specs.Phases.{starting_state, IsRun, in_phase_two}
use Rattle.pami_examples.proofs.FreshTests.{fresh_by_tests, dual_feasible_by_tests}
use Rattle.pami_examples.proofs.Facts.{not_empty}
use Rattle.std.specs.Fmt.{digits}
use Rattle.pami_frac.specs.Printed.{printed}
use Rattle.pami_lines.specs.Line.{text}
use Rattle.pami_text.specs.Record.{run_lines}
use Rattle.pami_frac.specs.BoundText.{bound_outcome}
use Rattle.pami_frac.specs.Decimal.{digits_within, zeros_within, decimal_outcome}
use Rattle.pami_script.specs.Dense.{dense}
use Rattle.pami_mps.specs.Mps.{Mps}
use Rattle.pami_model_form.specs.ModelForm.{model_form}
use Rattle.pami_examples.proofs.FileTests.{read_by_tests}
use Rattle.pami_examples.specs.Words.{usual, behind}
use Rattle.pami_examples.specs.Dropping.{dropping_file, dropping_contents, dropping, dropping_first_fresh, dropping_first, dropping_minor_1, dropping_second_basis, dropping_second_fresh, dropping_second, dropping_minor_2, dropping_third_basis, dropping_third_fresh, dropping_third, dropping_major, dropping_record, dropping_answer, dropping_named, dropping_text}

-- ---- the file
pub dropping_read : Mps dropping_file dropping_contents
unfolding digits_within zeros_within decimal_outcome bound_outcome of_int neg_f gcd
dropping_read = read_by_tests _ _ refl refl refl refl

pub dropping_formed : model_form dropping_contents ≡ dropping
unfolding dense of_int neg_f gcd
dropping_formed = refl

-- ---- the run

dropping_fresh_first : IsFresh dropping (starting_basis dropping) dropping_first_fresh
unfolding ◌+ᶠ◌ ◌*ᶠ◌ neg_f of_int inv_f gcd
dropping_fresh_first = fresh_by_tests _ _ _ refl refl refl refl

dropping_fresh_second : IsFresh dropping dropping_second_basis dropping_second_fresh
unfolding ◌+ᶠ◌ ◌*ᶠ◌ neg_f of_int inv_f gcd
dropping_fresh_second = fresh_by_tests _ _ _ refl refl refl refl

dropping_fresh_third : IsFresh dropping dropping_third_basis dropping_third_fresh
unfolding ◌+ᶠ◌ ◌*ᶠ◌ neg_f of_int inv_f gcd
dropping_fresh_third = fresh_by_tests _ _ _ refl refl refl refl

pub dropping_batch : IsBatch dropping 100000 dropping_first (dropping_minor_1 ∷ dropping_minor_2 ∷ []) dropping_third
unfolding ◌+ᶠ◌ ◌*ᶠ◌ neg_f of_int inv_f gcd bits size
dropping_batch = (
  refl,
  refl,
  dropping_second,
  record { basis = refl; fresh = dropping_fresh_second; weights = refl; count = refl; rows = refl },
  (
    refl,
    refl,
    dropping_third,
    record { basis = refl; fresh = dropping_fresh_third; weights = refl; count = refl; rows = refl },
    (refl, tt),
  ),
)

pub dropping_major_is : IsMajor dropping usual (starting_state dropping) dropping_major
unfolding ◌+ᶠ◌ ◌*ᶠ◌ neg_f of_int inv_f gcd bits size
dropping_major_is = record { basis = refl; fresh = dropping_fresh_first; weights = refl; count = refl; rows = refl; batch = dropping_batch }

dropping_walk : IsWalk dropping usual 1 Full (starting_state dropping) (dropping_major ∷ []) (WalkOptimal (behind dropping dropping_major))
unfolding ◌+ᶠ◌ ◌*ᶠ◌ neg_f of_int inv_f gcd bits size add_fits mul_fits add_outcome mul_outcome sub_outcome div_outcome elimination_script forward_script backward_script pivot
dropping_walk = (
  record { numbered = refl; in_mode = refl; major = dropping_major_is; infeasible = not_empty _ _; below_limit = λ e. omega arith },
  (refl, (dropping_third_fresh, dropping_fresh_third, refl)),
)

pub dropping_run : IsRun dropping usual dropping_record dropping_answer
unfolding ◌+ᶠ◌ ◌*ᶠ◌ neg_f of_int inv_f gcd bits size add_fits mul_fits add_outcome mul_outcome sub_outcome div_outcome elimination_script forward_script backward_script pivot
dropping_run =
    in_phase_two dropping_first_fresh (dropping_major ∷ []) (WalkOptimal (behind dropping dropping_major)) dropping_answer dropping_fresh_first refl (dual_feasible_by_tests dropping refl refl) dropping_walk (dropping_third_fresh, dropping_fresh_third, refl)

-- ---- the text

pub dropping_written : text (run_lines dropping_named usual dropping_record dropping_answer) ≡ dropping_text
unfolding ◌+ᶠ◌ ◌*ᶠ◌ neg_f of_int inv_f gcd bits size add_fits mul_fits add_outcome mul_outcome sub_outcome div_outcome elimination_script forward_script backward_script pivot printed digits
dropping_written = refl
