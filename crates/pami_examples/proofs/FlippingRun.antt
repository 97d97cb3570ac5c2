-- The run of the model, and its text, by computation.
use Rattle.std.proofs.Common.{[], ◌∷◌, refl, arith, ◌≡◌}
use Rattle.pami_algebra.specs.Fraction.{gcd}
use Rattle.pami_algebra.specs.Operations.{◌+ᶠ◌, ◌*ᶠ◌, neg_f, of_int, inv_f}
use Rattle.pami_algebra.specs.Size.{bits, size}
use Rattle.pami_linear.specs.Pivoting.{pivot}
use Rattle.pami_frac.specs.Arithmetic.{add_fits, mul_fits, add_outcome, mul_outcome, sub_outcome, div_outcome}
use Rattle.pami_factoring.specs.Factor.{elimination_script}
use Rattle.pami_factoring.specs.Solve.{forward_script, backward_script}
use Rattle.pami_theory.specs.Fresh.{IsFresh}
use Rattle.pami_theory.specs.Start.{starting_basis}
use Rattle.pami_method.specs.Batch.{IsBatch}
use Rattle.pami_method.specs.declared.words.Mode.TheVariants.{Full}
use Rattle.pami_method.specs.Walk.{IsMajor, Optimal as WalkOptimal, IsWalk}
use Rattle.pami_method.specs.Phases.{starting_state, IsRun, in_phase_two}
use Rattle.pami_examples.proofs.FreshTests.{fresh_by_tests, dual_feasible_by_tests}
use Rattle.pami_examples.proofs.Facts.{not_empty}
use Rattle.std.specs.Fmt.{digits}
use Rattle.pami_frac.specs.Printed.{printed}
use Rattle.pami_lines.specs.Line.{text}
use Rattle.pami_text.specs.Record.{run_lines}
use Rattle.pami_examples.specs.Words.{usual, behind}
use Rattle.pami_examples.specs.Flipping.{flipping, flipping_first_fresh, flipping_first, flipping_minor_1, flipping_second_basis, flipping_second_fresh, flipping_second, flipping_minor_2, flipping_third_basis, flipping_third_fresh, flipping_third, flipping_major, flipping_record, flipping_answer, flipping_named, flipping_text}

-- ---- the run

flipping_fresh_first : IsFresh flipping (starting_basis flipping) flipping_first_fresh
unfolding ◌+ᶠ◌ ◌*ᶠ◌ neg_f of_int inv_f gcd
flipping_fresh_first = fresh_by_tests _ _ _ refl refl refl refl

flipping_fresh_second : IsFresh flipping flipping_second_basis flipping_second_fresh
unfolding ◌+ᶠ◌ ◌*ᶠ◌ neg_f of_int inv_f gcd
flipping_fresh_second = fresh_by_tests _ _ _ refl refl refl refl

flipping_fresh_third : IsFresh flipping flipping_third_basis flipping_third_fresh
unfolding ◌+ᶠ◌ ◌*ᶠ◌ neg_f of_int inv_f gcd
flipping_fresh_third = fresh_by_tests _ _ _ refl refl refl refl

pub flipping_batch : IsBatch flipping 100000 flipping_first (flipping_minor_1 ∷ flipping_minor_2 ∷ []) flipping_third
unfolding ◌+ᶠ◌ ◌*ᶠ◌ neg_f of_int inv_f gcd bits size
flipping_batch = (
  refl,
  refl,
  flipping_second,
  record { basis = refl; fresh = flipping_fresh_second; weights = refl; count = refl; rows = refl },
  (
    refl,
    refl,
    flipping_third,
    record { basis = refl; fresh = flipping_fresh_third; weights = refl; count = refl; rows = refl },
    (refl, tt),
  ),
)

pub flipping_major_is : IsMajor flipping usual (starting_state flipping) flipping_major
unfolding ◌+ᶠ◌ ◌*ᶠ◌ neg_f of_int inv_f gcd bits size
flipping_major_is = record { basis = refl; fresh = flipping_fresh_first; weights = refl; count = refl; rows = refl; batch = flipping_batch }

flipping_walk : IsWalk flipping usual 1 Full (starting_state flipping) (flipping_major ∷ []) (WalkOptimal (behind flipping flipping_major))
unfolding ◌+ᶠ◌ ◌*ᶠ◌ neg_f of_int inv_f gcd bits size add_fits mul_fits add_outcome mul_outcome sub_outcome div_outcome elimination_script forward_script backward_script pivot
flipping_walk = (
  record { numbered = refl; in_mode = refl; major = flipping_major_is; infeasible = not_empty _ _; below_limit = λ e. omega arith },
  (refl, (flipping_third_fresh, flipping_fresh_third, refl)),
)

pub flipping_run : IsRun flipping usual flipping_record flipping_answer
unfolding ◌+ᶠ◌ ◌*ᶠ◌ neg_f of_int inv_f gcd bits size add_fits mul_fits add_outcome mul_outcome sub_outcome div_outcome elimination_script forward_script backward_script pivot
flipping_run =
    in_phase_two flipping_first_fresh (flipping_major ∷ []) (WalkOptimal (behind flipping flipping_major)) flipping_answer flipping_fresh_first refl (dual_feasible_by_tests flipping refl refl) flipping_walk (flipping_third_fresh, flipping_fresh_third, refl)

-- ---- the text

pub flipping_written : text (run_lines flipping_named usual flipping_record flipping_answer) ≡ flipping_text
unfolding ◌+ᶠ◌ ◌*ᶠ◌ neg_f of_int inv_f gcd bits size add_fits mul_fits add_outcome mul_outcome sub_outcome div_outcome elimination_script forward_script backward_script pivot printed digits
flipping_written = refl
