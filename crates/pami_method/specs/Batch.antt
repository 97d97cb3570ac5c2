-- A batch: some chosen rows leave one after the other (Huangfu and Hall 2018, section 3). Every turn is taken on the whole
-- form at the basis that was reached, which is solved afresh; nothing is deferred.
use Rattle.std.specs.Prelude.{◌≡◌, ℕ, suc, Bool, false, not, List, [], ◌∷◌, map, Option, None, Some, if◌then◌else◌, nat_eq, int_lt}
use Rattle.std.specs.List.{filter, filter_map}
use lib.IntN.{pos, ◌-ℤ◌}
use Rattle.pami_theory.specs.Form.{Form}
use Rattle.pami_theory.specs.Basis.{Basis}
use Rattle.pami_theory.specs.Fresh.{Fresh, IsFresh, column_at}
use Rattle.pami_theory.specs.Order.{ordered}
use Rattle.pami_theory.specs.Step.{Step, step_at, basis_after}
use Rattle.pami_theory.specs.Weights.{weights_after}
use Rattle.pami_theory.specs.Choice.{InfeasibleRow, infeasible_at, is_chosen_before}

-- what a batch has reached: a basis and what is solved there, the weights by place, the count of kept pivots with those
-- of the batch, and the chosen rows that remain, in order of choice, as they were when they were chosen
pub record Reached : Type 0 where
  pub basis : Basis
  pub fresh : Fresh
  pub weights : List ℕ
  pub count : ℕ
  pub rows : List InfeasibleRow

-- the places of some rows
abbrev pub places : List InfeasibleRow → List ℕ
places rows = map (λ (row : InfeasibleRow). row.place) rows

-- a row as it is now; None where its place is feasible
abbrev pub row_now : Form → Reached → InfeasibleRow → Option InfeasibleRow
row_now f r row = infeasible_at f r.basis r.fresh r.weights row.place

-- the merit now is at least that of the choice less 2
abbrev pub keeps_merit : InfeasibleRow → Option InfeasibleRow → Bool
keeps_merit row None = false
keeps_merit row (Some now) = not (int_lt now.merit (row.merit -ℤ pos 2))

-- infeasible still, and with merit
abbrev pub is_attractive : Form → Reached → InfeasibleRow → Bool
is_attractive f r row = keeps_merit row (row_now f r row)

-- the rows that stay at the beginning of a turn, and the places of those that are dropped, both in order of choice
abbrev pub staying : Form → Reached → List InfeasibleRow
staying f r = filter (is_attractive f r) r.rows

abbrev pub dropped : Form → Reached → List ℕ
dropped f r = places (filter (λ row. not (is_attractive f r row)) r.rows)

-- ---- a turn

pub data Turn : Type 0 where
  -- the kept pivots and those of the batch are as many as the limit allows
  AtLimit : Turn
  -- no row remains
  NoRow : (dropped : List ℕ) → Turn
  -- the best row has no entering variable
  Stuck : (dropped : List ℕ) → (row : InfeasibleRow) → Turn
  -- the best row leaves
  Pivots : (dropped : List ℕ) → (row : InfeasibleRow) → (step : Step) → Turn

abbrev pub with_step : List ℕ → InfeasibleRow → Option Step → Turn
with_step dropped row None = Stuck dropped row
with_step dropped row (Some step) = Pivots dropped row step

-- the first of the rows that stay, as they are now, in the order of choice
abbrev pub with_rows : Form → Reached → List InfeasibleRow → Turn
with_rows f r [] = NoRow (dropped f r)
with_rows f r (row ∷ rows) = with_step (dropped f r) row (step_at f r.basis r.fresh row.place row.violation)

abbrev pub turn : Form → ℕ → Reached → Turn
turn f limit r = if nat_eq r.count limit then AtLimit else with_rows f r (ordered is_chosen_before (filter_map (row_now f r) (staying f r)))

-- ---- the batch

-- a pivot, and what the batch had reached before it
pub record Minor : Type 0 where
  pub reached : Reached
  pub dropped : List ℕ
  pub row : InfeasibleRow
  pub step : Step

-- what is reached behind a pivot: the next basis, solved afresh, with the weights by the entering variable's column
-- before it
pub record IsNext (f : Form) (m : Minor) (next : Reached) : Type 0 where
  pub basis : next.basis ≡ basis_after m.reached.basis m.step
  pub fresh : IsFresh f next.basis next.fresh
  pub weights : next.weights ≡ weights_after (column_at m.reached.fresh m.step.entering) m.step.place m.reached.weights
  pub count : next.count ≡ suc m.reached.count
  pub rows : next.rows ≡ filter (λ (row : InfeasibleRow). not (nat_eq row.place m.step.place)) (staying f m.reached)

-- the turn is no pivot
abbrev pub EndsBatch : Turn → Type 0
EndsBatch AtLimit = Unit {0}
EndsBatch (NoRow dropped) = Unit {0}
EndsBatch (Stuck dropped row) = Unit {0}
EndsBatch (Pivots dropped row step) = ⊥

-- the pivots of a batch from `first` on, in order, up to `last`, whose turn is no pivot
abbrev pub IsBatch : Form → ℕ → Reached → List Minor → Reached → Type 0
IsBatch f limit first [] last = (last ≡ first) × EndsBatch (turn f limit first)
IsBatch f limit first (m ∷ ms) last =
    (m.reached ≡ first) × (turn f limit first ≡ Pivots m.dropped m.row m.step)
    × (next : Reached) × IsNext f m next × IsBatch f limit next ms last
