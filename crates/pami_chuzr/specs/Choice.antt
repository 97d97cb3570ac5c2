-- Row choice over lists by place: the bounds of the basic variables, their values and the weights of the places.
use Rattle.std.specs.Prelude.{◌≡◌, ℕ, ◌<◌, Bool, List, length, map, take, Option, None, Result, Ok, slice_index_or}
use Rattle.std.specs.List.{filter_map, range_with_len}
use Rattle.std.specs.Option.{option_map}
use Rattle.pami_algebra.specs.Fraction.{Fraction}
use Rattle.pami_linear.specs.Lists.{get}
use Rattle.pami_frac.specs.declared.arithmetic.Refused.{Refused}
use Rattle.pami_frac.specs.declared.list.Bounds.{Bounds}
use Rattle.pami_script.specs.Script.{then}
use Rattle.pami_theory.specs.Form.{Form, limits}
use Rattle.pami_theory.specs.Basis.{Basis, head_at}
use Rattle.pami_theory.specs.Fresh.{Fresh, value_at_place}
use Rattle.pami_theory.specs.declared.words.Violation.{Violation}
use Rattle.pami_theory.specs.Violation.{violation}
use Rattle.pami_theory.specs.Weights.{weight_at}
use Rattle.pami_theory.specs.Choice.{InfeasibleRow, row_of, is_chosen_before}
use Rattle.pami_theory.specs.Order.{ordered}
use Rattle.pami_method.specs.Scripts.{each_number, violation_script}
use Rattle.pami_chuzr.specs.declared.row.ChosenRow.{ChosenRow}
use Rattle.pami_chuzr.specs.declared.row.RankedRow.{RankedRow}

-- ---- places
-- the bounds of the variable at a place; none past the end of the list
abbrev pub bounds_at : List Bounds → ℕ → Bounds
bounds_at bounds p = slice_index_or bounds p (record { low = None; high = None })

-- how far the value at a place is outside
abbrev pub violation_at : List Bounds → List Fraction → ℕ → Result (Option Violation) Refused
violation_at bounds values p = violation_script (bounds_at bounds p) (get values p)

-- the same at all places, ascending
abbrev pub places_script : List Bounds → List Fraction → Result (List (Option Violation)) Refused
places_script bounds values = each_number (length values) 0 (violation_at bounds values)

-- a place with its violation and its merit; None where its value is within its bounds
abbrev pub infeasible_by : List Bounds → List Fraction → List ℕ → ℕ → Option InfeasibleRow
infeasible_by bounds values weights p = option_map (row_of p (weight_at weights p)) (violation (bounds_at bounds p) (get values p))

-- the first `most` infeasible places in the order of choice
abbrev pub chosen_by : List Bounds → List Fraction → List ℕ → ℕ → List InfeasibleRow
chosen_by bounds values weights most = take most (ordered is_chosen_before (filter_map (infeasible_by bounds values weights) (range_with_len 0 (length values))))

-- the lists of a basis: the values that are solved there, and the bounds of the variables at its places
pub record AreOfPlaces (f : Form) (b : Basis) (s : Fresh) (bounds : List Bounds) (values : List Fraction) : Type 0 where
  pub places : length values ≡ f.rows
  pub value : (p : ℕ) → p < f.rows → get values p ≡ value_at_place b s p
  pub bound : (p : ℕ) → p < f.rows → bounds_at bounds p ≡ limits f (head_at b p)

-- ---- rows of the program
-- a row of the program, as one of the theory
abbrev pub row_by : RankedRow → InfeasibleRow
row_by r = record { place = r.place; violation = r.violation; merit = r.merit }

-- the test by which rows of the program are ordered
abbrev pub is_before : RankedRow → RankedRow → Bool
is_before r s = is_chosen_before (row_by r) (row_by s)

-- what is told of a chosen place
abbrev pub chosen_row : InfeasibleRow → ChosenRow
chosen_row r = record { place = r.place; side = r.violation.side; merit = r.merit }

-- ---- the answer
-- the rows that are chosen, or the first refused operation over the places ascending
abbrev pub choice_script : List Bounds → List Fraction → List ℕ → ℕ → Result (List ChosenRow) Refused
choice_script bounds values weights most = then (places_script bounds values) (λ found. Ok (map chosen_row (chosen_by bounds values weights most)))
