-- The model of the file, its form, its run and its text, by computation.
use Rattle.std.proofs.Common.{[], ◌∷◌, refl, arith, ◌≡◌}
use Rattle.pami_algebra.specs.Fraction.{gcd}
use Rattle.pami_algebra.specs.Operations.{◌+ᶠ◌, ◌*ᶠ◌, neg_f, of_int, inv_f}
use Rattle.pami_algebra.specs.Size.{bits, size}
use Rattle.pami_linear.specs.Pivoting.{pivot}
use Rattle.pami_frac.specs.Arithmetic.{add_fits, mul_fits, add_outcome, mul_outcome, sub_outcome, div_outcome}
use Rattle.pami_factoring.specs.Factor.{elimination_script}
use Rattle.pami_factoring.specs.Solve.{forward_script, backward_script}
use Rattle.pami_theory.specs.Fresh.{IsFresh}
use Rattle.pami_theory.specs.Start.{starting_basis}
use Rattle.pami_method.specs.Batch.{IsBatch}
use Rattle.pami_method.specs.declared.words.Mode.TheVariants.{Full}
use Rattle.pami_method.specs.Walk.{IsMajor, Overflow as WalkOverflow, IsWalk}
use Rattle.pami_method.specs.Phases.{starting_state, IsRun, in_phase_two}
use Rattle.pami_method.specs.declared.words.Spot.TheVariants.{Factor}
use Rattle.pami_frac.specs.declared.arithmetic.Op.TheVariants.{Div}
use Rattle.pami_examples.proofs.FreshTests.{fresh_by_tests, dual_feasible_by_tests}
use Rattle.pami_examples.proofs.Facts.{not_empty}
use Rattle.std.specs.Fmt.{digits}
use Rattle.pami_frac.specs.Printed.{printed}
use Rattle.pami_lines.specs.Line.{text}
use Rattle.pami_text.specs.Record.{run_lines}
use Rattle.pami_frac.specs.BoundText.{bound_outcome}
use Rattle.pami_frac.specs.Decimal.{digits_within, zeros_within, decimal_outcome}
use Rattle.pami_script.specs.Dense.{dense}
use Rattle.pami_mps.specs.Mps.{Mps}
use Rattle.pami_model_form.specs.ModelForm.{model_form}
use Rattle.pami_examples.proofs.FileTests.{read_by_tests}
use Rattle.pami_examples.specs.Words.{whole, part, usual, behind}
use Rattle.pami_examples.specs.Overflowing.{overflowing_file, overflowing_contents, overflowing, overflowing_first_fresh, overflowing_first, overflowing_minor_1, overflowing_second_basis, overflowing_second_fresh, overflowing_second, overflowing_minor_2, overflowing_third_basis, overflowing_third_fresh, overflowing_third, overflowing_major, overflowing_again_first, overflowing_again_minor_1, overflowing_again_second, overflowing_major_2, overflowing_later_first, overflowing_later_minor_1, overflowing_later_second, overflowing_major_3, overflowing_last_first, overflowing_last_minor_1, overflowing_last_second, overflowing_major_4, overflowing_record, overflowing_answer, overflowing_named, overflowing_text}

-- ---- the file
pub overflowing_read : Mps overflowing_file overflowing_contents
unfolding digits_within zeros_within decimal_outcome bound_outcome of_int neg_f gcd
overflowing_read = read_by_tests _ _ refl refl refl refl

pub overflowing_formed : model_form overflowing_contents ≡ overflowing
unfolding dense of_int neg_f gcd
overflowing_formed = refl

-- ---- the run

overflowing_fresh_first : IsFresh overflowing (starting_basis overflowing) overflowing_first_fresh
unfolding ◌+ᶠ◌ ◌*ᶠ◌ neg_f of_int inv_f gcd
overflowing_fresh_first = fresh_by_tests _ _ _ refl refl refl refl

overflowing_fresh_second : IsFresh overflowing overflowing_second_basis overflowing_second_fresh
unfolding ◌+ᶠ◌ ◌*ᶠ◌ neg_f of_int inv_f gcd
overflowing_fresh_second = fresh_by_tests _ _ _ refl refl refl refl

overflowing_fresh_third : IsFresh overflowing overflowing_third_basis overflowing_third_fresh
unfolding ◌+ᶠ◌ ◌*ᶠ◌ neg_f of_int inv_f gcd
overflowing_fresh_third = fresh_by_tests _ _ _ refl refl refl refl

pub overflowing_batch : IsBatch overflowing 100000 overflowing_first (overflowing_minor_1 ∷ overflowing_minor_2 ∷ []) overflowing_third
unfolding ◌+ᶠ◌ ◌*ᶠ◌ neg_f of_int inv_f gcd bits size
overflowing_batch = (
  refl,
  refl,
  overflowing_second,
  record { basis = refl; fresh = overflowing_fresh_second; weights = refl; count = refl; rows = refl },
  (
    refl,
    refl,
    overflowing_third,
    record { basis = refl; fresh = overflowing_fresh_third; weights = refl; count = refl; rows = refl },
    (refl, tt),
  ),
)

pub overflowing_major_is : IsMajor overflowing usual (starting_state overflowing) overflowing_major
unfolding ◌+ᶠ◌ ◌*ᶠ◌ neg_f of_int inv_f gcd bits size
overflowing_major_is = record { basis = refl; fresh = overflowing_fresh_first; weights = refl; count = refl; rows = refl; batch = overflowing_batch }

pub overflowing_again_batch : IsBatch overflowing 100000 overflowing_again_first (overflowing_again_minor_1 ∷ []) overflowing_again_second
unfolding ◌+ᶠ◌ ◌*ᶠ◌ neg_f of_int inv_f gcd bits size
overflowing_again_batch = (
  refl,
  refl,
  overflowing_again_second,
  record { basis = refl; fresh = overflowing_fresh_second; weights = refl; count = refl; rows = refl },
  (refl, tt),
)

pub overflowing_major_2_is : IsMajor overflowing usual (starting_state overflowing) overflowing_major_2
unfolding ◌+ᶠ◌ ◌*ᶠ◌ neg_f of_int inv_f gcd bits size
overflowing_major_2_is = record { basis = refl; fresh = overflowing_fresh_first; weights = refl; count = refl; rows = refl; batch = overflowing_again_batch }

pub overflowing_later_batch : IsBatch overflowing 100000 overflowing_later_first (overflowing_later_minor_1 ∷ []) overflowing_later_second
unfolding ◌+ᶠ◌ ◌*ᶠ◌ neg_f of_int inv_f gcd bits size
overflowing_later_batch = (
  refl,
  refl,
  overflowing_later_second,
  record { basis = refl; fresh = overflowing_fresh_third; weights = refl; count = refl; rows = refl },
  (refl, tt),
)

pub overflowing_major_3_is : IsMajor overflowing usual (behind overflowing overflowing_major_2) overflowing_major_3
unfolding ◌+ᶠ◌ ◌*ᶠ◌ neg_f of_int inv_f gcd bits size
overflowing_major_3_is = record { basis = refl; fresh = overflowing_fresh_second; weights = refl; count = refl; rows = refl; batch = overflowing_later_batch }

pub overflowing_last_batch : IsBatch overflowing 100000 overflowing_last_first (overflowing_last_minor_1 ∷ []) overflowing_last_second
unfolding ◌+ᶠ◌ ◌*ᶠ◌ neg_f of_int inv_f gcd bits size
overflowing_last_batch = (
  refl,
  refl,
  overflowing_last_second,
  record { basis = refl; fresh = overflowing_fresh_third; weights = refl; count = refl; rows = refl },
  (refl, tt),
)

pub overflowing_major_4_is : IsMajor overflowing usual (behind overflowing overflowing_major_2) overflowing_major_4
unfolding ◌+ᶠ◌ ◌*ᶠ◌ neg_f of_int inv_f gcd bits size
overflowing_major_4_is = record { basis = refl; fresh = overflowing_fresh_second; weights = refl; count = refl; rows = refl; batch = overflowing_last_batch }

overflowing_walk : IsWalk overflowing usual 1 Full (starting_state overflowing) (overflowing_major ∷ overflowing_major_2 ∷ overflowing_major_3 ∷ overflowing_major_4 ∷ []) (WalkOverflow (record { task = Factor; refused = record { op = Div; left = part 1 100000000000000000000000000000000000000; right = whole 10 } }))
unfolding ◌+ᶠ◌ ◌*ᶠ◌ neg_f of_int inv_f gcd bits size add_fits mul_fits add_outcome mul_outcome sub_outcome div_outcome elimination_script forward_script backward_script pivot
overflowing_walk = (
  record { numbered = refl; in_mode = refl; major = overflowing_major_is; infeasible = not_empty _ _; below_limit = λ e. omega arith },
  (
    record { numbered = refl; in_mode = refl; major = overflowing_major_2_is; infeasible = not_empty _ _; below_limit = λ e. omega arith },
    (
      record { numbered = refl; in_mode = refl; major = overflowing_major_3_is; infeasible = not_empty _ _; below_limit = λ e. omega arith },
      (
        record { numbered = refl; in_mode = refl; major = overflowing_major_4_is; infeasible = not_empty _ _; below_limit = λ e. omega arith },
        (refl, refl),
      ),
    ),
  ),
)

pub overflowing_run : IsRun overflowing usual overflowing_record overflowing_answer
unfolding ◌+ᶠ◌ ◌*ᶠ◌ neg_f of_int inv_f gcd bits size add_fits mul_fits add_outcome mul_outcome sub_outcome div_outcome elimination_script forward_script backward_script pivot
overflowing_run =
    in_phase_two overflowing_first_fresh (overflowing_major ∷ overflowing_major_2 ∷ overflowing_major_3 ∷ overflowing_major_4 ∷ []) (WalkOverflow (record { task = Factor; refused = record { op = Div; left = part 1 100000000000000000000000000000000000000; right = whole 10 } })) overflowing_answer overflowing_fresh_first refl (dual_feasible_by_tests overflowing refl refl) overflowing_walk refl

-- ---- the text

pub overflowing_written : text (run_lines overflowing_named usual overflowing_record overflowing_answer) ≡ overflowing_text
unfolding ◌+ᶠ◌ ◌*ᶠ◌ neg_f of_int inv_f gcd bits size add_fits mul_fits add_outcome mul_outcome sub_outcome div_outcome elimination_script forward_script backward_script pivot printed digits
overflowing_written = refl
