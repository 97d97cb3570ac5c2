-- The parts of a minor as lists of tasks, and answers that tell the first of them that is refused.
use Rattle.std.specs.Prelude.{◌≡◌, ℕ, List, [], ◌∷◌, Option, None, Some, Result, Ok, Err}
use Rattle.pami_frac.specs.declared.arithmetic.Refused.{Refused}
use Rattle.pami_frac.specs.declared.fault.Fault.{Fault}
use Rattle.pami_frac.specs.declared.fault.Fault.TheVariants as faults
use Rattle.pami_theory.specs.Form.{Form}
use Rattle.pami_theory.specs.Fresh.{row_at}
use Rattle.pami_theory.specs.Choice.{InfeasibleRow}
use Rattle.pami_theory.specs.Step.{Step, step_at, theta}
use Rattle.pami_method.specs.declared.words.Place.{Place}
use Rattle.pami_method.specs.declared.words.Spot.{Spot}
use Rattle.pami_method.specs.declared.words.Spot.TheVariants as spots
use Rattle.pami_method.specs.Task.{Task, task, refusal}
use Rattle.pami_method.specs.Scripts.{price_script, ratio_script, step_script, reach_script, shift_script}
use Rattle.pami_method.specs.Batch.{Reached, Minor}
use Rattle.pami_method.specs.Work.{leaving_of, ratio_task, first_refused}

-- ---- answers

-- a fault with its script
abbrev pub fault_at : Spot → Fault Refused → Fault Place
fault_at spot (faults.Named refused) = faults.Named (record { task = spot; refused = refused })
fault_at spot faults.OutOfMemory = faults.OutOfMemory

abbrev pub placed : {A : Type 0} → Spot → Result A (Fault Refused) → Result A (Fault Place)
placed spot (Ok x) = Ok x
placed spot (Err fault) = Err (fault_at spot fault)

-- Ok where none of the tasks is refused, and then this holds; else their first refusal. Want of memory is free
abbrev pub Tells : {A : Type 0} → (A → Type 0) → List Task → Result A (Fault Place) → Type 0
Tells P ts (Ok x) = (first_refused ts ≡ None) × P x
Tells P ts (Err (faults.Named place)) = first_refused ts ≡ Some place
Tells P ts (Err faults.OutOfMemory) = Unit {0}

-- ---- the tasks of a part

-- a slice of the row that leaves
abbrev pub price_task : Form → ℕ → Reached → InfeasibleRow → ℕ → Task
price_task f number r row slice =
    task (spots.Price number slice) (price_script f r.basis (row_at r.fresh row.place) slice)

-- the step, where there is one
abbrev pub step_tasks : Form → ℕ → Reached → Option Step → List Task
step_tasks f number r None = []
step_tasks f number r (Some t) = task (spots.Step number) (step_script f r.basis r.fresh t) ∷ []

-- the walk of a row and its step
abbrev pub walk_tasks : Form → ℕ → Reached → InfeasibleRow → List Task
walk_tasks f number r row =
    ratio_task f number r row ∷ step_tasks f number r (step_at f r.basis r.fresh row.place row.violation)

-- the script of a refused walk: that of the walk where its own operations don't fit, else that of the step
abbrev pub spot_by : ℕ → Option Refused → Spot
spot_by number None = spots.Step number
spot_by number (Some refused) = spots.Ratio number

abbrev pub walk_spot : Form → ℕ → Reached → InfeasibleRow → Spot
walk_spot f number r row = spot_by number (refusal (ratio_script f r.basis (leaving_of r row)))

-- by the answer of the walk alone
abbrev pub IsSpotBehind : {A : Type 0} → ℕ → Result A (Fault Refused) → Spot → Type 0
IsSpotBehind number (Ok walk) spot = spot ≡ spots.Step number
IsSpotBehind number (Err (faults.Named refused)) spot = spot ≡ spots.Ratio number
IsSpotBehind number (Err faults.OutOfMemory) spot = ⊥

-- a row that remains
abbrev pub reach_task : Form → ℕ → Minor → ℕ → Task
reach_task f number m place =
    task (spots.Reach number place)
    (reach_script f m.reached.basis m.reached.fresh m.step (theta f m.reached.basis m.reached.fresh m.step) place)

-- a slice of the reduced costs
abbrev pub shift_task : Form → ℕ → Minor → ℕ → Task
shift_task f number m slice =
    task (spots.Shift number slice) (shift_script f m.reached.basis (leaving_of m.reached m.row) m.step slice)
