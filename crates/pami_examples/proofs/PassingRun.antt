-- The run of the model, and its text, by computation.
use Rattle.std.proofs.Common.{[], ◌∷◌, refl, arith, ◌≡◌}
use Rattle.pami_algebra.specs.Fraction.{gcd}
use Rattle.pami_algebra.specs.Operations.{◌+ᶠ◌, ◌*ᶠ◌, neg_f, of_int, inv_f}
use Rattle.pami_algebra.specs.Size.{bits, size}
use Rattle.pami_linear.specs.Pivoting.{pivot}
use Rattle.pami_frac.specs.Arithmetic.{add_fits, mul_fits, add_outcome, mul_outcome, sub_outcome, div_outcome}
use Rattle.pami_factoring.specs.Factor.{elimination_script}
use Rattle.pami_factoring.specs.Solve.{forward_script, backward_script}
use Rattle.pami_theory.specs.Fresh.{IsFresh}
use Rattle.pami_theory.specs.Start.{starting_basis}
use Rattle.pami_theory.specs.declared.words.Side.TheVariants.{Below}
use Rattle.pami_method.specs.Batch.{IsBatch}
use Rattle.pami_method.specs.declared.words.Mode.TheVariants.{Full}
use Rattle.pami_method.specs.Walk.{IsMajor, NoEntering, IsWalk}
use Rattle.pami_method.specs.Phases.{starting_state, IsRun, in_phase_two}
use Rattle.pami_examples.proofs.FreshTests.{fresh_by_tests, dual_feasible_by_tests}
use Rattle.pami_examples.proofs.Facts.{not_empty}
use Rattle.std.specs.Fmt.{digits}
use Rattle.pami_frac.specs.Printed.{printed}
use Rattle.pami_lines.specs.Line.{text}
use Rattle.pami_text.specs.Record.{run_lines}
use Rattle.pami_examples.specs.Words.{minus, usual}
use Rattle.pami_examples.specs.Passing.{passing, passing_first_fresh, passing_first, passing_major, passing_record, passing_answer, passing_named, passing_text}

-- ---- the run

passing_fresh_first : IsFresh passing (starting_basis passing) passing_first_fresh
unfolding ◌+ᶠ◌ ◌*ᶠ◌ neg_f of_int inv_f gcd
passing_fresh_first = fresh_by_tests _ _ _ refl refl refl refl

pub passing_batch : IsBatch passing 100000 passing_first ([]) passing_first
unfolding ◌+ᶠ◌ ◌*ᶠ◌ neg_f of_int inv_f gcd bits size
passing_batch =
    (refl, tt)

pub passing_major_is : IsMajor passing usual (starting_state passing) passing_major
unfolding ◌+ᶠ◌ ◌*ᶠ◌ neg_f of_int inv_f gcd bits size
passing_major_is = record { basis = refl; fresh = passing_fresh_first; weights = refl; count = refl; rows = refl; batch = passing_batch }

passing_walk : IsWalk passing usual 1 Full (starting_state passing) (passing_major ∷ []) (NoEntering 0 Below (minus 1 ∷ []))
unfolding ◌+ᶠ◌ ◌*ᶠ◌ neg_f of_int inv_f gcd bits size add_fits mul_fits add_outcome mul_outcome sub_outcome div_outcome elimination_script forward_script backward_script pivot
passing_walk = (
  record { numbered = refl; in_mode = refl; major = passing_major_is; infeasible = not_empty _ _; below_limit = λ e. omega arith },
  (refl, refl),
)

pub passing_run : IsRun passing usual passing_record passing_answer
unfolding ◌+ᶠ◌ ◌*ᶠ◌ neg_f of_int inv_f gcd bits size add_fits mul_fits add_outcome mul_outcome sub_outcome div_outcome elimination_script forward_script backward_script pivot
passing_run =
    in_phase_two passing_first_fresh (passing_major ∷ []) (NoEntering 0 Below (minus 1 ∷ [])) passing_answer passing_fresh_first refl (dual_feasible_by_tests passing refl refl) passing_walk refl

-- ---- the text

pub passing_written : text (run_lines passing_named usual passing_record passing_answer) ≡ passing_text
unfolding ◌+ᶠ◌ ◌*ᶠ◌ neg_f of_int inv_f gcd bits size add_fits mul_fits add_outcome mul_outcome sub_outcome div_outcome elimination_script forward_script backward_script pivot printed digits
passing_written = refl
