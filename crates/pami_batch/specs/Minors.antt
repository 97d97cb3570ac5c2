-- What the minor iterations of a batch come to.
use Rattle.std.specs.Prelude.{◌≡◌, ℕ, suc, List, [], ◌∷◌, ◌++◌, map, length, None, Some, Result, Ok, Err}
use Rattle.pami_frac.specs.declared.fault.Fault.{Fault}
use Rattle.pami_frac.specs.declared.fault.Fault.TheVariants as faults
use Rattle.pami_theory.specs.Form.{Form}
use Rattle.pami_theory.specs.Fresh.{row_at}
use Rattle.pami_theory.specs.Choice.{InfeasibleRow}
use Rattle.pami_method.specs.declared.words.Place.{Place}
use Rattle.pami_method.specs.Task.{Task}
use Rattle.pami_method.specs.Factor.{History}
use Rattle.pami_method.specs.Batch as batch
use Rattle.pami_method.specs.Batch.{Reached, Stuck, turn, places, IsBatch}
use Rattle.pami_method.specs.Work.{backward_task, all_minors, row_task, later_tasks, first_refused}
use Rattle.pami_minor.specs.Follow.{IsStopped}
use Rattle.pami_minor.specs.Steps.{AreStepsOf}
use Rattle.pami_log.specs.declared.event.Move.{Move}
use Rattle.pami_batch.specs.Batches.{IsStop, batch_moves}
use Rattle.pami_batch.specs.FinishedBatch.{FinishedBatch}
use Rattle.pami_batch.specs.declared.outcome.Outcome.{Outcome}
use Rattle.pami_batch.specs.declared.outcome.Outcome.TheVariants.{Refused}
use Rattle.pami_batch.specs.declared.minors.Minors.{Minors}
use Rattle.pami_batch.specs.declared.minors.Minors.TheVariants as minors

-- the tasks of a batch up to its last look at the rows: the rows of the chosen places, and the minors
abbrev pub inside_tasks : Form → ℕ → History → Reached → List batch.Minor → Reached → List Task
inside_tasks f limit h first ms last =
    map (backward_task f h) (places first.rows)
    ++ (all_minors f limit 1 ms ++ row_task f limit (suc (length ms)) last ∷ [])

-- The inside of the batch from `first` with the pivots ms up to `last`, by the factor with this history: it stops, and none
-- of its operations is refused; or its last row has no entering variable, and none at all is.
abbrev pub AreMinorsOf : Form → ℕ → History → Reached → List batch.Minor → Reached → Minors → Type 0
AreMinorsOf f limit h first ms last (minors.Stopped minor moves) =
    IsStop (turn f limit last)
    × IsStopped f limit last minor
    × AreStepsOf f ms minor.steps.items
    × (moves ≡ batch_moves f limit ms last)
    × (first_refused (inside_tasks f limit h first ms last) ≡ None)
AreMinorsOf f limit h first ms last (minors.Stuck rho moves) =
    ((dropped : List ℕ) × (row : InfeasibleRow) × (turn f limit last ≡ Stuck dropped row)
    × (rho ≡ row_at last.fresh row.place))
    × (moves ≡ batch_moves f limit ms last)
    × (first_refused (later_tasks f limit h first ms last) ≡ None)

-- some batch from `first` has these minors, or this first refusal; there is no other batch. Want of memory is free
abbrev pub HasMinors : Form → ℕ → History → Reached → Result Minors (Fault Place) → Type 0
HasMinors f limit h first (Ok answer) =
    (ms : List batch.Minor) × (last : Reached) × IsBatch f limit first ms last
    × AreMinorsOf f limit h first ms last answer
HasMinors f limit h first (Err (faults.Named place)) =
    (ms : List batch.Minor) × (last : Reached) × IsBatch f limit first ms last
    × (first_refused (later_tasks f limit h first ms last) ≡ Some place)
HasMinors f limit h first (Err faults.OutOfMemory) = Unit {0}

-- the inside of a batch that has stopped is told, and none of its operations is refused
pub record IsInside (f : Form) (b : FinishedBatch) (moves : List Move) : Type 0 where
  pub stop : IsStop (turn f b.limit b.last)
  pub told : moves ≡ batch_moves f b.limit b.minors b.last
  pub fits : first_refused (inside_tasks f b.limit b.history b.first b.minors b.last) ≡ None

-- the outcome for a fault that isn't want of memory
abbrev pub IsRefusal : Fault Place → Outcome → Type 0
IsRefusal (faults.Named place) outcome = outcome ≡ Refused place
IsRefusal faults.OutOfMemory outcome = ⊥
