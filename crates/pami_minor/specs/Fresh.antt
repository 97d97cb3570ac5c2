-- What a Minor keeps is what is solved afresh at the basis that its batch has reached.
use Rattle.std.specs.Prelude.{◌≡◌, ℕ, suc, ◌+◌, ◌*◌, ◌<◌, ◌≤◌, ◌^◌, false, not, List, [], ◌∷◌, ◌++◌, length, take, drop, Some, nat_eq, nat_lt, cond, slice_index_or, vec_len, vec_capacity}
use Rattle.std.specs.List.{filter, filter_map}
use Rattle.pami_linear.specs.Lists.{get}
use Rattle.pami_theory.specs.Form.{Form, variables, limits}
use Rattle.pami_theory.specs.Basis.{IsBasis, head_at}
use Rattle.pami_theory.specs.Fresh.{IsFresh, row_at, value_at_place}
use Rattle.pami_theory.specs.Order.{ordered}
use Rattle.pami_theory.specs.Weights.{weight_at}
use Rattle.pami_theory.specs.Choice.{InfeasibleRow, is_chosen_before}
use Rattle.pami_theory.specs.Ratio.{row_entry}
use Rattle.pami_theory.specs.Step.{is_among}
use Rattle.pami_method.specs.Batch as batch
use Rattle.pami_method.specs.Batch.{Reached, places, row_now, staying}
use Rattle.pami_method.specs.Scripts.{nonbasic_in}
use Rattle.pami_price.specs.Agreement.{nonzero_entries}
use Rattle.pami_price.specs.Slices.{slices}
use Rattle.pami_devex.specs.Weights.{AreWeights}
use Rattle.pami_deferral.specs.SolvedBatch.{IsSolvedPivot}
use Rattle.pami_deferral.specs.Inside.{IsPlaced}
use Rattle.pami_vec.specs.declared.step.Step.{Step}
use Rattle.pami_minor.specs.Steps.{IsStepOf}
use Rattle.pami_minor.specs.Picks.{remaining_of}
use Rattle.pami_minor.specs.declared.row.Remaining.{Remaining}
use Rattle.pami_minor.specs.declared.kept.Kept.{Kept}
use Rattle.pami_minor.specs.declared.kept.Picked.{Picked}
use Rattle.pami_minor.specs.declared.minor.Minor.{Minor}

-- ---- what a batch has reached

-- the rows are at distinct places
abbrev pub AreApart : List InfeasibleRow → Type 0
AreApart [] = Unit {0}
AreApart (x ∷ xs) = (is_among x.place (places xs) ≡ false) × AreApart xs

-- a basis that is solved afresh, with its weights, and rows at distinct places of it
pub record IsReached (f : Form) (r : Reached) : Type 0 where
  pub basis : IsBasis f r.basis
  pub fresh : IsFresh f r.basis r.fresh
  pub placed : IsPlaced f r
  pub apart : AreApart r.rows
  pub range : AreWeights r.weights

-- what a pick reads of a row that remains is what is solved at the basis that is reached
pub record IsKnownRow (f : Form) (r : Reached) (row : Remaining) (x : InfeasibleRow) : Type 0 where
  pub place : row.place ≡ x.place
  pub merit : row.merit ≡ x.merit
  pub bounds : row.bounds ≡ limits f (head_at r.basis x.place)
  pub value : row.value ≡ value_at_place r.basis r.fresh x.place
  pub weight : row.weight ≡ weight_at r.weights x.place

abbrev pub AreKnownRows : Form → Reached → List Remaining → List InfeasibleRow → Type 0
AreKnownRows f r [] [] = Unit {0}
AreKnownRows f r (row ∷ rows) (x ∷ xs) = IsKnownRow f r row x × AreKnownRows f r rows xs
AreKnownRows f r [] (x ∷ xs) = ⊥
AreKnownRows f r (row ∷ rows) [] = ⊥

-- and so is its row of the inverse
pub record IsFreshRow (f : Form) (r : Reached) (k : Kept) (x : InfeasibleRow) : Type 0 where
  pub known : IsKnownRow f r (remaining_of k) x
  pub rho : k.at.rho ≡ row_at r.fresh x.place

abbrev pub AreFreshRows : Form → Reached → List Kept → List InfeasibleRow → Type 0
AreFreshRows f r [] [] = Unit {0}
AreFreshRows f r (k ∷ ks) (x ∷ xs) = IsFreshRow f r k x × AreFreshRows f r ks xs
AreFreshRows f r [] (x ∷ xs) = ⊥
AreFreshRows f r (k ∷ ks) [] = ⊥

-- room for all that is noted later: of n rows, and of m steps more
pub record HasRoom (n m : ℕ) (minor : Minor) : Type 0 where
  pub nows : n ≤ vec_capacity minor.nows
  pub dropped : n ≤ vec_capacity minor.dropped
  pub remaining : n ≤ vec_capacity minor.remaining
  pub steps : vec_len minor.steps + m ≤ vec_capacity minor.steps
  pub slices : length minor.alpha.items ≡ slices (length minor.stands.items)

-- so many pivots are counted, within the limit
pub record IsLimited (limit count : ℕ) (minor : Minor) : Type 0 where
  pub count_is : minor.count ≡ count
  pub limit_is : minor.limit ≡ limit
  pub most : count ≤ limit
  pub few : limit < 2 ^ 32

-- ---- before a row

-- each remaining row, all stands and all reduced costs are those of the basis that the batch has reached
pub record IsFreshMinor (f : Form) (limit : ℕ) (r : Reached) (minor : Minor) : Type 0 where
  pub reached : IsReached f r
  pub head : minor.head.items ≡ r.basis.head
  pub stands : minor.stands.items ≡ r.basis.stands
  pub reduced : minor.reduced.items ≡ r.fresh.reduced
  pub limited : IsLimited limit r.count minor
  pub rows : AreFreshRows f r minor.rows.items r.rows
  pub remaining : minor.remaining.items ≡ places r.rows
  pub room : HasRoom (length r.rows) (length r.rows) minor

-- ---- between a row and its step

-- the row is the first of those that stay, as they are now
pub record IsPick (f : Form) (limit : ℕ) (r : Reached) (row : InfeasibleRow) : Type 0 where
  pub below : ¬ (r.count ≡ limit)
  pub others : List InfeasibleRow
  pub first : ordered is_chosen_before (filter_map (row_now f r) (staying f r)) ≡ row ∷ others

-- those that stay beside it
abbrev pub rest_of : Form → Reached → InfeasibleRow → List InfeasibleRow
rest_of f r row = filter (λ (x : InfeasibleRow). not (nat_eq x.place row.place)) (staying f r)

-- what is kept of the row that was picked
pub record IsPickedRow (r : Reached) (row : InfeasibleRow) (k : Picked) : Type 0 where
  pub place : k.at.place ≡ row.place
  pub violation : k.violation ≡ row.violation
  pub value : k.at.value ≡ value_at_place r.basis r.fresh row.place
  pub weight : k.at.weight ≡ weight_at r.weights row.place
  pub rho : k.at.rho ≡ row_at r.fresh row.place

-- the first n slices of its pivot row
pub record ArePriced (f : Form) (r : Reached) (row : InfeasibleRow) (n : ℕ) (minor : Minor) : Type 0 where
  pub at : (slice : ℕ) → slice < n
      → slice_index_or minor.alpha.items slice [] ≡ nonzero_entries (row_entry f (row_at r.fresh row.place)) (nonbasic_in f r.basis slice)

-- the row was picked, and n slices of its pivot row are priced
pub record IsPricing (f : Form) (limit : ℕ) (r : Reached) (row : InfeasibleRow) (n : ℕ) (minor : Minor) : Type 0 where
  pub reached : IsReached f r
  pub pick : IsPick f limit r row
  pub head : minor.head.items ≡ r.basis.head
  pub stands : minor.stands.items ≡ r.basis.stands
  pub reduced : minor.reduced.items ≡ r.fresh.reduced
  pub limited : IsLimited limit r.count minor
  pub rows : AreFreshRows f r minor.rows.items (rest_of f r row)
  pub remaining : minor.remaining.items ≡ places (rest_of f r row)
  pub picked : (k : Picked) × (minor.picked ≡ Some k) × IsPickedRow r row k
  pub priced : ArePriced f r row n minor
  pub room : HasRoom (length (rest_of f r row)) (suc (length (rest_of f r row))) minor

-- and all of them are
abbrev pub IsRowPriced : Form → ℕ → Reached → InfeasibleRow → Minor → Type 0
IsRowPriced f limit r row minor = IsPricing f limit r row (slices (variables f)) minor

-- ---- between a step and the next row

-- the reduced costs of the first n slices are those of the basis behind the pivot, the others those of the one before it
pub record AreShifted (f : Form) (before behind : Reached) (n : ℕ) (minor : Minor) : Type 0 where
  pub by_variable : length minor.reduced.items ≡ variables f
  pub at : (v : ℕ) → v < variables f
      → get minor.reduced.items v ≡ cond (nat_lt v (64 * n)) (get behind.fresh.reduced v) (get before.fresh.reduced v)

-- the step of the minor m is committed, behind which the batch reaches `next`: the first i remaining rows and the first j
-- slices are fresh there, and the others at the basis before
pub record IsStepping (f : Form) (limit : ℕ) (m : batch.Minor) (next : Reached) (i j : ℕ) (minor : Minor) : Type 0 where
  pub reached : IsReached f m.reached
  pub pivot : IsSolvedPivot f limit m next
  pub head : minor.head.items ≡ next.basis.head
  pub stands : minor.stands.items ≡ next.basis.stands
  pub limited : IsLimited limit next.count minor
  pub within : i ≤ length next.rows
  pub reached_rows : AreFreshRows f next (take i minor.rows.items) (take i next.rows)
  pub other_rows : AreFreshRows f m.reached (drop i minor.rows.items) (drop i next.rows)
  pub remaining : minor.remaining.items ≡ places next.rows
  pub shifted : AreShifted f m.reached next j minor
  pub picked : (k : Picked) × (minor.picked ≡ Some k) × IsPickedRow m.reached m.row k
  pub priced : ArePriced f m.reached m.row (slices (variables f)) minor
  pub step : (earlier : List Step) × (last : Step) × (minor.steps.items ≡ earlier ++ last ∷ []) × IsStepOf f m.reached.basis m.reached.fresh m.step last
  pub room : HasRoom (length next.rows) (length next.rows) minor
