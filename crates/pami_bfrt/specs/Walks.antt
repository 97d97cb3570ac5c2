-- The walk over candidates by a running slope, with its operations, and what it found as the theory has it.
use Rattle.std.specs.Prelude.{◌≡◌, ℕ, cond, List, [], ◌∷◌, ◌++◌, Option, None, Some, Result, Ok, Err}
use Rattle.std.specs.Option.{option_map}
use Rattle.pami_algebra.specs.Fraction.{Fraction}
use Rattle.pami_frac.specs.Arithmetic.{mul_outcome, sub_outcome}
use Rattle.pami_frac.specs.declared.arithmetic.Refused.{Refused}
use Rattle.pami_frac.specs.declared.list.Entry.{Entry}
use Rattle.pami_script.specs.Script.{then}
use Rattle.pami_algebra.specs.Operations.{is_below}
use Rattle.pami_theory.specs.Form.{zero_f}
use Rattle.pami_theory.specs.Order.{ordered}
use Rattle.pami_theory.specs.Ratio.{Entering}
use Rattle.pami_theory.specs.declared.words.Violation.{Violation}
use Rattle.pami_bfrt.specs.Candidates.{Table, candidates_script, comes_before}
use Rattle.pami_bfrt.specs.declared.candidate.Candidate.{Candidate}
use Rattle.pami_bfrt.specs.declared.walk.Walk.{Walk}
use Rattle.pami_bfrt.specs.declared.walk.Walk.TheVariants as walks

-- a slope that goes on only above 0
abbrev pub positive_only : Fraction → Option Fraction
positive_only slope = cond (is_below zero_f slope) (Some slope) None

-- the slope behind the flip of a candidate of this size and width; None where it isn't passed
abbrev pub slope_behind : Option Fraction → Fraction → Fraction → Result (Option Fraction) Refused
slope_behind None size slope = Ok None
slope_behind (Some width) size slope = then (mul_outcome size width) (λ fall. then (sub_outcome slope fall) (λ next. Ok (positive_only next)))

-- with these flips before its own
abbrev pub flips_first : List ℕ → Entering → Entering
flips_first vs e = record { variable = e.variable; tau = e.tau; flips = vs ++ e.flips }

-- a candidate that is passed is flipped, and one that isn't enters
abbrev pub passed : Candidate → Option Fraction → (Fraction → Result (Option Entering) Refused) → Result (Option Entering) Refused
passed c None rest = Ok (Some (record { variable = c.variable; tau = c.ratio; flips = [] }))
passed c (Some slope) rest = then (rest slope) (λ found. Ok (option_map (flips_first (c.variable ∷ [])) found))

-- over these candidates, one after the other
abbrev pub walk_over : List Candidate → Fraction → Result (Option Entering) Refused
walk_over [] slope = Ok None
walk_over (c ∷ cs) slope = then (slope_behind c.width c.size slope) (λ behind. passed c behind (walk_over cs))

-- what is found behind these flips
abbrev pub onward : List ℕ → Result (Option Entering) Refused → Result (Option Entering) Refused
onward vs s = then s (λ found. Ok (option_map (flips_first vs) found))

-- all quotients first, and then the walk over the candidates in order
abbrev pub walk_script : Table → List Entry → Violation → Result (Option Entering) Refused
walk_script t alpha violation = then (candidates_script t violation.side alpha) (λ cs. walk_over (ordered comes_before cs) violation.amount)

-- what a walk of the program found
abbrev pub found_by : Walk → Option Entering
found_by (walks.Entering variable tau flips) = Some (record { variable = variable; tau = tau; flips = flips })
found_by walks.NoEntering = None
