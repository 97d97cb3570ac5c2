-- What the run of a batch comes to.
use Rattle.std.specs.Prelude.{◌≡◌, ◌⊎◌, ℕ, List, ◌++◌, map, None, Some}
use Rattle.std.specs.List.{flat_map}
use Rattle.pami_theory.specs.Form as theory
use Rattle.pami_theory.specs.Fresh.{row_at}
use Rattle.pami_theory.specs.Choice.{InfeasibleRow}
use Rattle.pami_method.specs.Factor.{History}
use Rattle.pami_method.specs.Batch.{Reached, Minor, Turn, AtLimit, NoRow, Stuck, turn, IsBatch}
use Rattle.pami_method.specs.Work.{later_tasks, first_refused, pivot_of}
use Rattle.pami_log.specs.declared.event.Move.{Move}
use Rattle.pami_log.specs.Events.{minor_moves, last_moves}
use Rattle.pami_vec.specs.Pivots.{column_pivots}
use Rattle.pami_devex.specs.Weights.{AreWeights}
use Rattle.pami_state.specs.State.{basis_of, values_by_place}
use Rattle.pami_state.specs.declared.state.State.{State}
use Rattle.pami_batch.specs.declared.outcome.Outcome.{Outcome}
use Rattle.pami_batch.specs.declared.outcome.Outcome.TheVariants.{Collected, NoEntering, Refused}

-- the batch stops: the limit is met, or no row remains
abbrev pub IsStop : Turn → Type 0
IsStop t = (t ≡ AtLimit) ⊎ ((dropped : List ℕ) × (t ≡ NoRow dropped))

-- the drops, flips and pivots of a batch in order, with what ends it
abbrev pub batch_moves : theory.Form → ℕ → List Minor → Reached → List Move
batch_moves f limit ms last = flat_map minor_moves ms ++ last_moves last (turn f limit last)

-- the state is what the batch has reached, solved afresh
pub record IsStateOf (f : theory.Form) (last : Reached) (st : State) : Type 0 where
  pub basis : basis_of st ≡ last.basis
  pub values : st.values ≡ values_by_place f last.basis last.fresh
  pub reduced : st.reduced ≡ last.fresh.reduced
  pub weights : st.weights ≡ last.weights
  pub range : AreWeights st.weights
  pub count : st.pivots ≡ last.count

-- The outcome of the batch from `first` with the pivots ms up to `last`, by the factor with this history: the first refused
-- operation of its scripts; or it stops, and the state is collected; or its last row has no entering variable.
abbrev pub IsOutcome : theory.Form → ℕ → History → Reached → List Minor → Reached → Outcome → Type 0
IsOutcome f limit h first ms last (Collected state pivots moves) =
    (first_refused (later_tasks f limit h first ms last) ≡ None)
    × IsStop (turn f limit last)
    × IsStateOf f last state
    × (column_pivots pivots ≡ map pivot_of ms)
    × (moves ≡ batch_moves f limit ms last)
IsOutcome f limit h first ms last (NoEntering rho moves) =
    (first_refused (later_tasks f limit h first ms last) ≡ None)
    × ((dropped : List ℕ) × (row : InfeasibleRow) × (turn f limit last ≡ Stuck dropped row) × (rho ≡ row_at last.fresh row.place))
    × (moves ≡ batch_moves f limit ms last)
IsOutcome f limit h first ms last (Refused place) =
    first_refused (later_tasks f limit h first ms last) ≡ Some place

-- some batch from `first` has this outcome; there is no other batch
abbrev pub HasOutcome : theory.Form → ℕ → History → Reached → Outcome → Type 0
HasOutcome f limit h first outcome =
    (ms : List Minor) × (last : Reached) × IsBatch f limit first ms last × IsOutcome f limit h first ms last outcome
