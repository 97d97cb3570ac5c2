-- Rows that remain, as they are read before each row: how each is now, which are dropped, and which is picked.
use Rattle.std.specs.Prelude.{ℕ, Bool, List, [], ◌∷◌, Option, None, Some, Result, Ok, cond}
use Rattle.std.specs.Global.{Vec}
use Rattle.std.specs.Option.{option_map}
use Rattle.pami_frac.specs.declared.arithmetic.Refused.{Refused}
use Rattle.pami_script.specs.Script.{then, each_member}
use Rattle.pami_theory.specs.declared.words.Violation.{Violation}
use Rattle.pami_theory.specs.Choice.{InfeasibleRow, merit, is_chosen_before}
use Rattle.pami_method.specs.Scripts.{violation_script}
use Rattle.pami_deferral.specs.Inside.{keeps}
use Rattle.pami_minor.specs.declared.row.Remaining.{Remaining}
use Rattle.pami_minor.specs.declared.row.RowNow.{RowNow}
use Rattle.pami_minor.specs.declared.row.RowPick.{RowPick}
use Rattle.pami_minor.specs.declared.row.RowPick.TheVariants.{Row, Stop}

abbrev pub row_seen : RowNow → InfeasibleRow
row_seen now = record { place = now.place; violation = now.violation; merit = now.merit }

-- the row with this violation
abbrev pub now_with : Remaining → Violation → RowNow
now_with row v = record { place = row.place; violation = v; merit = merit v.amount row.weight }

-- how it is now
abbrev pub look_by : Remaining → Result (Option RowNow) Refused
look_by row = then (violation_script row.bounds row.value) (λ v. Ok (option_map (now_with row) v))

-- all rows, in order
abbrev pub looks_by : List Remaining → Result (List (Option RowNow)) Refused
looks_by rows = each_member (λ i row. look_by row) 0 rows

-- the one of two that is picked first
abbrev pub better_of : Option RowNow → Option RowNow → Option RowNow
better_of None second = second
better_of (Some x) None = Some x
better_of (Some x) (Some y) = cond (is_chosen_before (row_seen x) (row_seen y)) (Some x) (Some y)

-- ---- beside how they are now

-- the places of those that are dropped
abbrev pub dropped_by : List Remaining → List (Option RowNow) → List ℕ
dropped_by (row ∷ rows) (now ∷ nows) = cond (keeps row.merit (option_map row_seen now)) (dropped_by rows nows) (row.place ∷ dropped_by rows nows)
dropped_by _ _ = []

-- the best of those that stay
abbrev pub best_by : List Remaining → List (Option RowNow) → Option RowNow
best_by (row ∷ rows) (now ∷ nows) = better_of (cond (keeps row.merit (option_map row_seen now)) now None) (best_by rows nows)
best_by _ _ = None

-- ---- a pick

-- the places of the rows that are dropped, and the best of the others, if there is one
pub record Found : Type 0 where
  pub dropped : List ℕ
  pub best : Option RowNow

abbrev pub find_by : List Remaining → Result Found Refused
find_by rows = then (looks_by rows) (λ nows. Ok (record { dropped = dropped_by rows nows; best = best_by rows nows }))

abbrev pub found : Vec ℕ × Option RowNow → Found
found answer = record { dropped = answer.0.items; best = answer.1 }

-- the places of the rows that are dropped, and what the batch goes on with
pub record Pick : Type 0 where
  pub dropped : List ℕ
  pub row : RowPick

abbrev pub pick_of : Option RowNow → RowPick
pick_of None = Stop
pick_of (Some now) = Row now.place now.violation

-- at the limit no row is looked at, and none is dropped
abbrev pub pick_by : List Remaining → Bool → Result Pick Refused
pick_by rows at_limit =
    cond at_limit (Ok (record { dropped = []; row = Stop }))
    (then (find_by rows) (λ look. Ok (record { dropped = look.dropped; row = pick_of look.best })))

abbrev pub picked : Vec ℕ × RowPick → Pick
picked answer = record { dropped = answer.0.items; row = answer.1 }
