-- What the calls of a Minor answer, at what its batch has reached.
use Rattle.std.specs.Prelude.{◌≡◌, ℕ, ◌⊎◌, Bool, not, List, [], ◌∷◌, Option, None, Some, Result, Ok, Err, nat_eq, cond}
use Rattle.std.specs.Global.{Vec}
use Rattle.std.specs.List.{filter, filter_map}
use Rattle.pami_frac.specs.declared.arithmetic.Refused.{Refused}
use Rattle.pami_frac.specs.declared.fault.Fault.{Fault}
use Rattle.pami_frac.specs.declared.fault.Fault.TheVariants as faults
use Rattle.pami_frac.specs.declared.list.Entry.{Entry}
use Rattle.pami_theory.specs.Form.{Form}
use Rattle.pami_theory.specs.Fresh.{row_at}
use Rattle.pami_theory.specs.declared.words.Violation.{Violation}
use Rattle.pami_theory.specs.Ratio.{row_entry}
use Rattle.pami_price.specs.Agreement.{nonzero_entries}
use Rattle.pami_theory.specs.Choice.{InfeasibleRow, is_chosen_before}
use Rattle.pami_theory.specs.Order.{ordered}
use Rattle.pami_script.specs.Script.{each_member}
use Rattle.pami_method.specs.Batch.{Reached, AtLimit, NoRow, turn, dropped, places, row_now, is_attractive}
use Rattle.pami_method.specs.Task.{refusal}
use Rattle.pami_method.specs.Scripts.{row_script, place_script, nonbasic_in}
use Rattle.pami_minor.specs.declared.row.Remaining.{Remaining}
use Rattle.pami_minor.specs.declared.row.RowPick.{RowPick}
use Rattle.pami_minor.specs.declared.row.RowPick.TheVariants.{Row, Stop}
use Rattle.pami_minor.specs.declared.kept.Kept.{Kept}
use Rattle.pami_minor.specs.declared.kept.Picked.{Picked}
use Rattle.pami_minor.specs.declared.minor.Minor.{Minor}
use Rattle.pami_minor.specs.Fresh.{IsReached, AreKnownRows, AreFreshRows, IsPick, IsPickedRow, IsPricing}

-- the entries of the row in a slice, as the basis has them
abbrev pub IsPriceOf : Form → Reached → InfeasibleRow → ℕ → List Entry → Type 0
IsPriceOf f r row slice es = es ≡ nonzero_entries (row_entry f (row_at r.fresh row.place)) (nonbasic_in f r.basis slice)

-- the batch stops, with these drops
abbrev pub Stops : Form → ℕ → Reached → List ℕ → Type 0
Stops f limit r drops = ((turn f limit r ≡ AtLimit) × (drops ≡ [])) ⊎ ((turn f limit r ≡ NoRow (dropped f r)) × (drops ≡ dropped f r))

-- the places that remain where the batch stops: all where the limit is met, and none where no row stays
abbrev pub places_left : ℕ → Reached → List ℕ
places_left limit r = cond (nat_eq r.count limit) (places r.rows) []

-- what is kept at the end of the batch
pub record IsStopped (f : Form) (limit : ℕ) (r : Reached) (minor : Minor) : Type 0 where
  pub reached : IsReached f r
  pub head : minor.head.items ≡ r.basis.head
  pub stands : minor.stands.items ≡ r.basis.stands
  pub reduced : minor.reduced.items ≡ r.fresh.reduced
  pub remaining : minor.remaining.items ≡ places_left limit r
  pub rows : r.count ≡ limit → AreFreshRows f r minor.rows.items r.rows

-- of rows at what is reached: the first of those that stay, or none, with the drops; else the first refusal in order
abbrev pub FollowsAmong : Form → Reached → List InfeasibleRow → List Kept → List ℕ → Result (Option Picked) Refused → Type 0
FollowsAmong f r xs ks drops (Ok None) =
    (ordered is_chosen_before (filter_map (row_now f r) (filter (is_attractive f r) xs)) ≡ [])
    × (drops ≡ places (filter (λ x. not (is_attractive f r x)) xs))
    × (refusal (each_member (λ k p. place_script f r.basis r.fresh p) 0 (places xs)) ≡ None)
FollowsAmong f r xs ks drops (Ok (Some picked)) =
    (row : InfeasibleRow) × (others : List InfeasibleRow)
    × (ordered is_chosen_before (filter_map (row_now f r) (filter (is_attractive f r) xs)) ≡ row ∷ others)
    × IsPickedRow r row picked
    × AreFreshRows f r ks (filter (λ (x : InfeasibleRow). not (nat_eq x.place row.place)) (filter (is_attractive f r) xs))
    × (drops ≡ places (filter (λ x. not (is_attractive f r x)) xs))
    × (refusal (each_member (λ k p. place_script f r.basis r.fresh p) 0 (places xs)) ≡ None)
FollowsAmong f r xs ks drops (Err refused) = each_member (λ k p. place_script f r.basis r.fresh p) 0 (places xs) ≡ Err refused

-- the rows that a turn looks at: none where the limit is met
abbrev pub looked_rows : Form → ℕ → Reached → Result (List (Option Violation)) Refused
looked_rows f limit r = row_script f r.basis r.fresh (cond (nat_eq r.count limit) [] (places r.rows))

-- the next row: the row that the turn takes, or that it takes none; else the first operation of its script that doesn't fit
abbrev pub FollowsPick : Form → ℕ → Reached → Minor → Result RowPick Refused → Type 0
FollowsPick f limit r minor (Ok (Row place violation)) =
    (row : InfeasibleRow) × (row.place ≡ place) × (row.violation ≡ violation) × (minor.dropped.items ≡ dropped f r) × IsPricing f limit r row 0 minor
    × (refusal (looked_rows f limit r) ≡ None)
FollowsPick f limit r minor (Ok Stop) =
    Stops f limit r minor.dropped.items × IsStopped f limit r minor × (refusal (looked_rows f limit r) ≡ None)
FollowsPick f limit r minor (Err refused) = looked_rows f limit r ≡ Err refused

-- ---- the same over rows that are handed in

-- these rows are those of what is reached, and this says whether the limit is met there
pub record IsBeforePick (f : Form) (limit : ℕ) (r : Reached) (rows : List Remaining) (at_limit : Bool) : Type 0 where
  pub rows_are : AreKnownRows f r rows r.rows
  pub limit_is : at_limit ≡ nat_eq r.count limit

-- the row that the turn takes and its drops, or that the batch stops
abbrev pub IsTurn : Form → ℕ → Reached → List ℕ → RowPick → Type 0
IsTurn f limit r drops (Row place violation) =
    (row : InfeasibleRow) × (row.place ≡ place) × (row.violation ≡ violation) × (drops ≡ dropped f r) × IsPick f limit r row
IsTurn f limit r drops Stop = Stops f limit r drops

-- the turn; else the first operation of its script that doesn't fit
abbrev pub FollowsTurn : Form → ℕ → Reached → Result (Vec ℕ × RowPick) (Fault Refused) → Type 0
FollowsTurn f limit r (Ok answer) = IsTurn f limit r answer.0.items answer.1 × (refusal (looked_rows f limit r) ≡ None)
FollowsTurn f limit r (Err (faults.Named refused)) = looked_rows f limit r ≡ Err refused
FollowsTurn f limit r (Err faults.OutOfMemory) = Unit {0}
