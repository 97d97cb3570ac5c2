-- Which rows a major iteration works on: the infeasible places with the greatest infeasibility by weight, as Devex
-- pricing compares them (Forrest and Goldfarb 1992), with binary digits in place of squares.
use Rattle.std.specs.Prelude.{ℕ, ◌-◌, Bool, true, false, List, take, Option, if◌then◌else◌, nat_lt, int_lt}
use Rattle.std.specs.List.{filter_map, range_with_len}
use Rattle.std.specs.Option.{option_map}
use lib.IntN.{ℤ, pos, ◌-ℤ◌, ◌*ℤ◌}
use Rattle.pami_algebra.specs.Fraction.{Fraction}
use Rattle.pami_algebra.specs.Operations.{is_below}
use Rattle.pami_algebra.specs.Size.{size, bits}
use Rattle.pami_theory.specs.Form.{Form, limits}
use Rattle.pami_theory.specs.Basis.{Basis, head_at}
use Rattle.pami_theory.specs.Fresh.{Fresh, value_at_place}
use Rattle.pami_theory.specs.declared.words.Violation.{Violation}
use Rattle.pami_theory.specs.Violation.{violation}
use Rattle.pami_theory.specs.Order.{ordered}
use Rattle.pami_theory.specs.Weights.{weight_at}

-- the logarithm, in digits, of the squared infeasibility by its weight
abbrev pub merit : Fraction → ℕ → ℤ
merit amount weight = pos 2 *ℤ size amount -ℤ pos (bits weight - 1)

-- an infeasible place, with the violation of its variable and its merit
pub record InfeasibleRow : Type 0 where
  pub place : ℕ
  pub violation : Violation
  pub merit : ℤ

abbrev pub row_of : ℕ → ℕ → Violation → InfeasibleRow
row_of p weight v = record { place = p; violation = v; merit = merit v.amount weight }

-- the place p as an infeasible one, at the values that are solved there and these weights by place; None where it is
-- feasible
abbrev pub infeasible_at : Form → Basis → Fresh → List ℕ → ℕ → Option InfeasibleRow
infeasible_at f b s weights p = option_map (row_of p (weight_at weights p)) (violation (limits f (head_at b p)) (value_at_place b s p))

-- the greater merit first, then the greater infeasibility, then the smaller place
abbrev pub is_chosen_before : InfeasibleRow → InfeasibleRow → Bool
is_chosen_before r s =
    if int_lt s.merit r.merit then true else
    if int_lt r.merit s.merit then false else
    if is_below s.violation.amount r.violation.amount then true else
    if is_below r.violation.amount s.violation.amount then false else nat_lt r.place s.place

-- the infeasible places, ascending
abbrev pub infeasible_rows : Form → Basis → Fresh → List ℕ → List InfeasibleRow
infeasible_rows f b s weights = filter_map (infeasible_at f b s weights) (range_with_len 0 f.rows)

-- the first `most` of them in the order of choice
abbrev pub chosen : Form → Basis → Fresh → List ℕ → ℕ → List InfeasibleRow
chosen f b s weights most = take most (ordered is_chosen_before (infeasible_rows f b s weights))
