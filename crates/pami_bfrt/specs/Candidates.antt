-- Which variables may enter, by lists over the variables and the entries of the pivot row that aren't 0.
use Rattle.std.specs.Prelude.{ℕ, Bool, true, false, cond, List, [], ◌∷◌, Option, None, Some, Result, Ok, nat_lt, slice_index_or, if◌then◌else◌}
use Rattle.pami_algebra.specs.Fraction.{Fraction}
use Rattle.pami_algebra.specs.Operations.{is_below}
use Rattle.pami_frac.specs.Arithmetic.{div_outcome}
use Rattle.pami_frac.specs.declared.arithmetic.Refused.{Refused}
use Rattle.pami_frac.specs.declared.list.Bounds.{Bounds}
use Rattle.pami_frac.specs.declared.list.Entry.{Entry}
use Rattle.pami_linear.specs.Lists.{get}
use Rattle.pami_script.specs.Script as script
use Rattle.pami_theory.specs.declared.words.Stand.{Stand}
use Rattle.pami_theory.specs.declared.words.Stand.TheVariants.{Basic}
use Rattle.pami_theory.specs.declared.words.Side.{Side}
use Rattle.pami_theory.specs.Ratio.{toward, may_enter, absolute}
use Rattle.pami_bfrt.specs.declared.candidate.Candidate.{Candidate}

-- what is known of all variables: where they stand, their bounds, the widths of the boxed ones, the reduced costs
pub record Table : Type 0 where
  pub stands : List Stand
  pub bounds : List Bounds
  pub widths : List (Option Fraction)
  pub reduced : List Fraction

abbrev pub stand_at : Table → ℕ → Stand
stand_at t v = slice_index_or t.stands v Basic

abbrev pub bounds_at : Table → ℕ → Bounds
bounds_at t v = slice_index_or t.bounds v (record { low = None; high = None })

abbrev pub width_at : Table → ℕ → Option Fraction
width_at t v = slice_index_or t.widths v None

abbrev pub is_bounded : Option Fraction → Option Fraction → Bool
is_bounded None high = false
is_bounded (Some low) None = false
is_bounded (Some low) (Some high) = true

-- bounds on both sides and no width: of uncrossed bounds, these are equal
abbrev pub is_fixed : Bounds → Option Fraction → Bool
is_fixed bounds None = is_bounded bounds.low bounds.high
is_fixed bounds (Some width) = false

-- a variable with this turned entry may enter
abbrev pub is_candidate : Table → ℕ → Fraction → Bool
is_candidate t v a = cond (is_fixed (bounds_at t v) (width_at t v)) false (may_enter (stand_at t v) a)

-- it, with its ratio
abbrev pub candidate_of : Table → ℕ → Fraction → Fraction → Candidate
candidate_of t v a ratio = record { variable = v; ratio = ratio; size = absolute a; width = width_at t v }

-- the candidate that an entry with this turned value makes, with its quotient; None where the variable may not enter
abbrev pub candidate_script : Table → ℕ → Fraction → Result (Option Candidate) Refused
candidate_script t v a = cond (is_candidate t v a) (script.then (div_outcome (get t.reduced v) a) (λ ratio. Ok (Some (candidate_of t v a ratio)))) (Ok None)

abbrev pub with_candidate : Option Candidate → List Candidate → List Candidate
with_candidate None cs = cs
with_candidate (Some c) cs = c ∷ cs

-- the candidates among entries, ascending
abbrev pub candidates_script : Table → Side → List Entry → Result (List Candidate) Refused
candidates_script t side [] = Ok []
candidates_script t side (e ∷ es) =
    script.then (candidate_script t e.place (toward side e.value)) (λ c. script.then (candidates_script t side es) (λ cs. Ok (with_candidate c cs)))

-- the less ratio first, then the greater size, then the smaller variable
abbrev pub comes_before : Candidate → Candidate → Bool
comes_before c d =
    if is_below c.ratio d.ratio then true else
    if is_below d.ratio c.ratio then false else
    if is_below d.size c.size then true else
    if is_below c.size d.size then false else nat_lt c.variable d.variable
