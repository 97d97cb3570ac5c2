-- The run of the model, and its text, by computation.
use Rattle.std.proofs.Common.{[], ◌∷◌, refl, arith, ◌≡◌}
use Rattle.pami_algebra.specs.Fraction.{gcd}
use Rattle.pami_algebra.specs.Operations.{◌+ᶠ◌, ◌*ᶠ◌, neg_f, of_int, inv_f}
use Rattle.pami_algebra.specs.Size.{bits, size}
use Rattle.pami_linear.specs.Pivoting.{pivot}
use Rattle.pami_frac.specs.Arithmetic.{add_fits, mul_fits, add_outcome, mul_outcome, sub_outcome, div_outcome}
use Rattle.pami_factoring.specs.Factor.{elimination_script}
use Rattle.pami_factoring.specs.Solve.{forward_script, backward_script}
use Rattle.pami_theory.specs.Fresh.{IsFresh}
use Rattle.pami_theory.specs.Start.{starting_basis}
use Rattle.pami_method.specs.Batch.{IsBatch}
use Rattle.pami_method.specs.declared.words.Mode.TheVariants.{Full}
use Rattle.pami_method.specs.Walk.{IsMajor, Optimal as WalkOptimal, IsWalk}
use Rattle.pami_method.specs.Phases.{starting_state, IsRun, in_phase_two}
use Rattle.pami_examples.proofs.FreshTests.{fresh_by_tests, dual_feasible_by_tests}
use Rattle.pami_examples.proofs.Facts.{not_empty}
use Rattle.std.specs.Fmt.{digits}
use Rattle.pami_frac.specs.Printed.{printed}
use Rattle.pami_lines.specs.Line.{text}
use Rattle.pami_text.specs.Record.{run_lines}
use Rattle.pami_examples.specs.Words.{usual, behind}
use Rattle.pami_examples.specs.Blending.{blending, blending_first_fresh, blending_first, blending_minor_1, blending_second_basis, blending_second_fresh, blending_second, blending_minor_2, blending_third_basis, blending_third_fresh, blending_third, blending_minor_3, blending_fourth_basis, blending_fourth_fresh, blending_fourth, blending_major, blending_record, blending_answer, blending_named, blending_text}

-- ---- the run

blending_fresh_first : IsFresh blending (starting_basis blending) blending_first_fresh
unfolding ◌+ᶠ◌ ◌*ᶠ◌ neg_f of_int inv_f gcd
blending_fresh_first = fresh_by_tests _ _ _ refl refl refl refl

blending_fresh_second : IsFresh blending blending_second_basis blending_second_fresh
unfolding ◌+ᶠ◌ ◌*ᶠ◌ neg_f of_int inv_f gcd
blending_fresh_second = fresh_by_tests _ _ _ refl refl refl refl

blending_fresh_third : IsFresh blending blending_third_basis blending_third_fresh
unfolding ◌+ᶠ◌ ◌*ᶠ◌ neg_f of_int inv_f gcd
blending_fresh_third = fresh_by_tests _ _ _ refl refl refl refl

blending_fresh_fourth : IsFresh blending blending_fourth_basis blending_fourth_fresh
unfolding ◌+ᶠ◌ ◌*ᶠ◌ neg_f of_int inv_f gcd
blending_fresh_fourth = fresh_by_tests _ _ _ refl refl refl refl

pub blending_batch : IsBatch blending 100000 blending_first (blending_minor_1 ∷ blending_minor_2 ∷ blending_minor_3 ∷ []) blending_fourth
unfolding ◌+ᶠ◌ ◌*ᶠ◌ neg_f of_int inv_f gcd bits size
blending_batch = (
  refl,
  refl,
  blending_second,
  record { basis = refl; fresh = blending_fresh_second; weights = refl; count = refl; rows = refl },
  (
    refl,
    refl,
    blending_third,
    record { basis = refl; fresh = blending_fresh_third; weights = refl; count = refl; rows = refl },
    (
      refl,
      refl,
      blending_fourth,
      record { basis = refl; fresh = blending_fresh_fourth; weights = refl; count = refl; rows = refl },
      (refl, tt),
    ),
  ),
)

pub blending_major_is : IsMajor blending usual (starting_state blending) blending_major
unfolding ◌+ᶠ◌ ◌*ᶠ◌ neg_f of_int inv_f gcd bits size
blending_major_is = record { basis = refl; fresh = blending_fresh_first; weights = refl; count = refl; rows = refl; batch = blending_batch }

blending_walk : IsWalk blending usual 1 Full (starting_state blending) (blending_major ∷ []) (WalkOptimal (behind blending blending_major))
unfolding ◌+ᶠ◌ ◌*ᶠ◌ neg_f of_int inv_f gcd bits size add_fits mul_fits add_outcome mul_outcome sub_outcome div_outcome elimination_script forward_script backward_script pivot
blending_walk = (
  record { numbered = refl; in_mode = refl; major = blending_major_is; infeasible = not_empty _ _; below_limit = λ e. omega arith },
  (refl, (blending_fourth_fresh, blending_fresh_fourth, refl)),
)

pub blending_run : IsRun blending usual blending_record blending_answer
unfolding ◌+ᶠ◌ ◌*ᶠ◌ neg_f of_int inv_f gcd bits size add_fits mul_fits add_outcome mul_outcome sub_outcome div_outcome elimination_script forward_script backward_script pivot
blending_run =
    in_phase_two blending_first_fresh (blending_major ∷ []) (WalkOptimal (behind blending blending_major)) blending_answer blending_fresh_first refl (dual_feasible_by_tests blending refl refl) blending_walk (blending_fourth_fresh, blending_fresh_fourth, refl)

-- ---- the text

pub blending_written : text (run_lines blending_named usual blending_record blending_answer) ≡ blending_text
unfolding ◌+ᶠ◌ ◌*ᶠ◌ neg_f of_int inv_f gcd bits size add_fits mul_fits add_outcome mul_outcome sub_outcome div_outcome elimination_script forward_script backward_script pivot printed digits
blending_written = refl
