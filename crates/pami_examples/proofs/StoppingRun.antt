-- The run of the model, and its text, by computation.
use Rattle.std.proofs.Common.{[], ◌∷◌, refl, arith, ◌≡◌}
use Rattle.pami_algebra.specs.Fraction.{gcd}
use Rattle.pami_algebra.specs.Operations.{◌+ᶠ◌, ◌*ᶠ◌, neg_f, of_int, inv_f}
use Rattle.pami_algebra.specs.Size.{bits, size}
use Rattle.pami_linear.specs.Pivoting.{pivot}
use Rattle.pami_frac.specs.Arithmetic.{add_fits, mul_fits, add_outcome, mul_outcome, sub_outcome, div_outcome}
use Rattle.pami_factoring.specs.Factor.{elimination_script}
use Rattle.pami_factoring.specs.Solve.{forward_script, backward_script}
use Rattle.pami_theory.specs.Fresh.{IsFresh}
use Rattle.pami_theory.specs.Start.{starting_basis}
use Rattle.pami_theory.specs.declared.words.Side.TheVariants.{Below}
use Rattle.pami_method.specs.Batch.{IsBatch}
use Rattle.pami_method.specs.declared.words.Mode.TheVariants.{Full}
use Rattle.pami_method.specs.Walk.{IsMajor, state_after, NoEntering, Limit as WalkLimit, IsWalk}
use Rattle.pami_method.specs.Phases.{starting_state, IsRun, in_phase_two}
use Rattle.pami_examples.proofs.FreshTests.{fresh_by_tests, dual_feasible_by_tests}
use Rattle.pami_examples.proofs.Facts.{not_empty}
use Rattle.std.specs.Fmt.{digits}
use Rattle.pami_frac.specs.Printed.{printed}
use Rattle.pami_lines.specs.Line.{text}
use Rattle.pami_text.specs.Record.{run_lines}
use Rattle.pami_examples.specs.Words.{whole, minus, usual, limited}
use Rattle.pami_examples.specs.Stopping.{stopping, stopping_first_fresh, stopping_first, stopping_minor_1, stopping_second_basis, stopping_second_fresh, stopping_second, stopping_minor_2, stopping_third_basis, stopping_third_fresh, stopping_third, stopping_major, stopping_limited_major, stopping_record, stopping_answer, stopping_limited_record, stopping_limited_answer, stopping_named, stopping_text, stopping_limited_text}

-- ---- the run

stopping_fresh_first : IsFresh stopping (starting_basis stopping) stopping_first_fresh
unfolding ◌+ᶠ◌ ◌*ᶠ◌ neg_f of_int inv_f gcd
stopping_fresh_first = fresh_by_tests _ _ _ refl refl refl refl

stopping_fresh_second : IsFresh stopping stopping_second_basis stopping_second_fresh
unfolding ◌+ᶠ◌ ◌*ᶠ◌ neg_f of_int inv_f gcd
stopping_fresh_second = fresh_by_tests _ _ _ refl refl refl refl

stopping_fresh_third : IsFresh stopping stopping_third_basis stopping_third_fresh
unfolding ◌+ᶠ◌ ◌*ᶠ◌ neg_f of_int inv_f gcd
stopping_fresh_third = fresh_by_tests _ _ _ refl refl refl refl

pub stopping_batch : IsBatch stopping 100000 stopping_first (stopping_minor_1 ∷ stopping_minor_2 ∷ []) stopping_third
unfolding ◌+ᶠ◌ ◌*ᶠ◌ neg_f of_int inv_f gcd bits size
stopping_batch = (
  refl,
  refl,
  stopping_second,
  record { basis = refl; fresh = stopping_fresh_second; weights = refl; count = refl; rows = refl },
  (
    refl,
    refl,
    stopping_third,
    record { basis = refl; fresh = stopping_fresh_third; weights = refl; count = refl; rows = refl },
    (refl, tt),
  ),
)

pub stopping_major_is : IsMajor stopping usual (starting_state stopping) stopping_major
unfolding ◌+ᶠ◌ ◌*ᶠ◌ neg_f of_int inv_f gcd bits size
stopping_major_is = record { basis = refl; fresh = stopping_fresh_first; weights = refl; count = refl; rows = refl; batch = stopping_batch }

stopping_walk : IsWalk stopping usual 1 Full (starting_state stopping) (stopping_major ∷ []) (NoEntering 2 Below (whole 0 ∷ whole 0 ∷ minus 1 ∷ []))
unfolding ◌+ᶠ◌ ◌*ᶠ◌ neg_f of_int inv_f gcd bits size add_fits mul_fits add_outcome mul_outcome sub_outcome div_outcome elimination_script forward_script backward_script pivot
stopping_walk = (
  record { numbered = refl; in_mode = refl; major = stopping_major_is; infeasible = not_empty _ _; below_limit = λ e. omega arith },
  (refl, refl),
)

pub stopping_run : IsRun stopping usual stopping_record stopping_answer
unfolding ◌+ᶠ◌ ◌*ᶠ◌ neg_f of_int inv_f gcd bits size add_fits mul_fits add_outcome mul_outcome sub_outcome div_outcome elimination_script forward_script backward_script pivot
stopping_run =
    in_phase_two stopping_first_fresh (stopping_major ∷ []) (NoEntering 2 Below (whole 0 ∷ whole 0 ∷ minus 1 ∷ [])) stopping_answer stopping_fresh_first refl (dual_feasible_by_tests stopping refl refl) stopping_walk refl

stopping_limited_batch : IsBatch stopping 1 stopping_first (stopping_minor_1 ∷ []) stopping_second
unfolding ◌+ᶠ◌ ◌*ᶠ◌ neg_f of_int inv_f gcd bits size
stopping_limited_batch = (refl, refl, stopping_second, record { basis = refl; fresh = stopping_fresh_second; weights = refl; count = refl; rows = refl }, (refl, tt))

stopping_limited_walk : IsWalk stopping limited 1 Full (starting_state stopping) (stopping_limited_major ∷ []) (WalkLimit (state_after limited (starting_state stopping) stopping_limited_major))
unfolding ◌+ᶠ◌ ◌*ᶠ◌ neg_f of_int inv_f gcd bits size add_fits mul_fits add_outcome mul_outcome sub_outcome div_outcome elimination_script forward_script backward_script pivot
stopping_limited_walk = (
  record {
    numbered = refl;
    in_mode = refl;
    major = record { basis = refl; fresh = stopping_fresh_first; weights = refl; count = refl; rows = refl; batch = stopping_limited_batch };
    infeasible = not_empty _ _;
    below_limit = λ e. omega arith;
  },
  (refl, refl, (stopping_second_fresh, stopping_fresh_second, not_empty _ _)),
)

pub stopping_limited_run : IsRun stopping limited stopping_limited_record stopping_limited_answer
unfolding ◌+ᶠ◌ ◌*ᶠ◌ neg_f of_int inv_f gcd bits size add_fits mul_fits add_outcome mul_outcome sub_outcome div_outcome elimination_script forward_script backward_script pivot
stopping_limited_run =
    in_phase_two stopping_first_fresh (stopping_limited_major ∷ []) (WalkLimit (state_after limited (starting_state stopping) stopping_limited_major)) stopping_limited_answer
    stopping_fresh_first refl (dual_feasible_by_tests stopping refl refl) stopping_limited_walk refl

-- ---- the text

pub stopping_written : text (run_lines stopping_named usual stopping_record stopping_answer) ≡ stopping_text
unfolding ◌+ᶠ◌ ◌*ᶠ◌ neg_f of_int inv_f gcd bits size add_fits mul_fits add_outcome mul_outcome sub_outcome div_outcome elimination_script forward_script backward_script pivot printed digits
stopping_written = refl

pub stopping_limited_written : text (run_lines stopping_named limited stopping_limited_record stopping_limited_answer) ≡ stopping_limited_text
unfolding ◌+ᶠ◌ ◌*ᶠ◌ neg_f of_int inv_f gcd bits size add_fits mul_fits add_outcome mul_outcome sub_outcome div_outcome elimination_script forward_script backward_script pivot printed digits
stopping_limited_written = refl
