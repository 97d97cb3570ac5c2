-- What one turn of a batch comes to.
use Rattle.std.specs.Prelude.{◌≡◌, ℕ, suc, ◌+◌, List, [], ◌∷◌, ◌++◌, length, map, Option, None, Some, Result, Ok, Err}
use Rattle.pami_frac.specs.declared.fault.Fault.{Fault}
use Rattle.pami_frac.specs.declared.fault.Fault.TheVariants as faults
use Rattle.pami_theory.specs.Form.{Form}
use Rattle.pami_theory.specs.Basis.{head_at, stand_at}
use Rattle.pami_theory.specs.Fresh.{row_at}
use Rattle.pami_theory.specs.Choice.{InfeasibleRow}
use Rattle.pami_theory.specs.Step as theory
use Rattle.pami_theory.specs.Step.{step_at, flipped}
use Rattle.pami_method.specs.declared.words.Place.{Place}
use Rattle.pami_method.specs.Task.{Task}
use Rattle.pami_method.specs.Factor.{History}
use Rattle.pami_method.specs.Batch as batch
use Rattle.pami_method.specs.Batch.{Reached, turn, dropped, IsBatch}
use Rattle.pami_method.specs.Work.{all_minors, minor_tasks, row_task, price_tasks, ratio_task, step_task, reach_tasks}
use Rattle.pami_method.specs.Work.{shift_tasks, last_tasks, first_refused}
use Rattle.pami_log.specs.declared.event.Move.{Move}
use Rattle.pami_log.specs.declared.event.Move.TheVariants as moves
use Rattle.pami_log.specs.Events.{minor_moves, last_moves}
use Rattle.pami_deferral.specs.SolvedBatch.{IsSolvedPivot}
use Rattle.pami_vec.specs.declared.step.Step.{Step}
use Rattle.pami_minor.specs.Steps.{IsStepOf}
use Rattle.pami_minor.specs.Fresh.{IsFreshMinor}
use Rattle.pami_minor.specs.Follow.{IsStopped}
use Rattle.pami_minor.specs.declared.minor.Minor.{Minor}
use Rattle.pami_batch.specs.Batches.{IsStop}
use Rattle.pami_batch.specs.declared.minors_turn.Taken.{Taken}
use Rattle.pami_batch.specs.declared.minors_turn.Taken.TheVariants as taken

-- ---- a row that leaves

-- the pivot of a row and its step
abbrev pub minor_at : Form → Reached → InfeasibleRow → theory.Step → batch.Minor
minor_at f r row t = record { reached = r; dropped = dropped f r; row = row; step = t }

-- what follows its walk: its step and all that is brought behind it, where there is one
abbrev pub behind_tasks : Form → ℕ → Reached → InfeasibleRow → Option theory.Step → List Task
behind_tasks f number r row None = []
behind_tasks f number r row (Some t) =
    step_task f number (minor_at f r row t)
    ∷ (reach_tasks f number (minor_at f r row t) ++ shift_tasks f number (minor_at f r row t))

abbrev pub leave_tasks : Form → ℕ → Reached → InfeasibleRow → List Task
leave_tasks f number r row =
    price_tasks f number r row
    ++ ratio_task f number r row ∷ behind_tasks f number r row (step_at f r.basis r.fresh row.place row.violation)

-- the flips of a step and its pivot, as they are told
abbrev pub step_moves : Reached → theory.Step → List Move
step_moves r t =
    map (λ v. moves.Flipped v (flipped (stand_at r.basis v))) t.flips
    ++ moves.Pivoted (suc r.count) t.place t.leaving t.side t.entering t.tau ∷ []

abbrev pub stuck_moves : Reached → InfeasibleRow → List Move
stuck_moves r row = moves.Stuck row.place (head_at r.basis row.place) row.violation.side ∷ []

-- the minor's step is behind the earlier ones, and the Minor is fresh behind it
pub record IsBehind (f : Form) (limit : ℕ) (m : batch.Minor) (next : Reached) (before after : Minor) : Type 0 where
  pub pivot : IsSolvedPivot f limit m next
  pub fresh : IsFreshMinor f limit next after
  pub step : Step
  pub step_is : IsStepOf f m.reached.basis m.reached.fresh m.step step
  pub steps : after.steps.items ≡ before.steps.items ++ step ∷ []

-- the row is stuck, or it pivots; the moves are told
abbrev pub IsLeft : Form → ℕ → Reached → InfeasibleRow → Minor → Minor → List Move → List Move → Taken → Type 0
IsLeft f limit r row before after old new taken.Stopped = ⊥
IsLeft f limit r row before after old new (taken.Stuck rho) =
    (step_at f r.basis r.fresh row.place row.violation ≡ None)
    × (rho ≡ row_at r.fresh row.place) × (new ≡ old ++ stuck_moves r row)
IsLeft f limit r row before after old new taken.Pivoted =
    (t : theory.Step) × (next : Reached) × (step_at f r.basis r.fresh row.place row.violation ≡ Some t)
    × IsBehind f limit (minor_at f r row t) next before after × (new ≡ old ++ step_moves r t)

-- ---- a turn

-- the tasks of a batch from this minor on: `whole` has the pivots from `first` on
abbrev pub rest_tasks : Form → ℕ → History → Reached → List batch.Minor → ℕ → List batch.Minor → Reached → List Task
rest_tasks f limit h first whole number ms last =
    all_minors f limit number ms
    ++ row_task f limit (number + length ms) last
    ∷ last_tasks f h first whole (number + length ms) last (turn f limit last)

-- whatever was before, this is refused first of all that follows in a batch
abbrev pub Refuses : Form → ℕ → Reached → ℕ → Place → Type 0
Refuses f limit r number place =
    (h : History) (first : Reached) (whole ms : List batch.Minor) (last : Reached) → IsBatch f limit r ms last
    → first_refused (rest_tasks f limit h first whole number ms last) ≡ Some place

-- The batch stops, or its row is stuck, or it pivots: the moves are those of the turn, and none of its tasks is refused.
-- Else the first of them that is.
abbrev pub IsTurn : Form → ℕ → Reached → ℕ → Minor → Minor → List Move → List Move → Result Taken (Fault Place) → Type 0
IsTurn f limit r number before after old new (Ok taken.Stopped) =
    IsStop (turn f limit r)
    × IsStopped f limit r after
    × (after.steps.items ≡ before.steps.items)
    × (new ≡ old ++ last_moves r (turn f limit r))
    × (first_refused (row_task f limit number r ∷ []) ≡ None)
IsTurn f limit r number before after old new (Ok (taken.Stuck rho)) =
    (row : InfeasibleRow) × (turn f limit r ≡ batch.Stuck (dropped f r) row) × (rho ≡ row_at r.fresh row.place)
    × (new ≡ old ++ last_moves r (turn f limit r))
    × (first_refused (row_task f limit number r ∷ (price_tasks f number r row ++ ratio_task f number r row ∷ [])) ≡ None)
IsTurn f limit r number before after old new (Ok taken.Pivoted) =
    (m : batch.Minor) × (next : Reached) × (m.reached ≡ r) × IsBehind f limit m next before after
    × (new ≡ old ++ minor_moves m)
    × (first_refused (minor_tasks f limit number m) ≡ None)
IsTurn f limit r number before after old new (Err (faults.Named place)) = Refuses f limit r number place
IsTurn f limit r number before after old new (Err faults.OutOfMemory) = Unit {0}
