-- A row that leaves: its parts, one behind the other, and the turn that takes it.
use Rattle.std.proofs.Common.{◌≡◌, ℕ, inl, inr, List, [], ◌∷◌, ◌++◌, Option, None, Some, Result, Ok, Err, refl, sym, ap, ◌∙◌, subst}
use Rattle.std.proofs.lemmas.List.{append_assoc}
use Rattle.std.proofs.lemmas.Option.{none-some}
use Rattle.pami_frac.specs.declared.fault.Fault.{Fault}
use Rattle.pami_frac.specs.declared.fault.Fault.TheVariants as faults
use Rattle.pami_theory.specs.Form.{Form}
use Rattle.pami_theory.specs.Basis.{Basis}
use Rattle.pami_theory.specs.Fresh.{Fresh}
use Rattle.pami_theory.specs.Step as theory
use Rattle.pami_theory.specs.Step.{step_at}
use Rattle.pami_theory.specs.Choice.{InfeasibleRow}
use Rattle.pami_method.specs.declared.words.Place.{Place}
use Rattle.pami_method.specs.Task.{Task}
use Rattle.pami_method.specs.Batch.{Reached, dropped}
use Rattle.pami_method.specs.Work.{row_task, price_tasks, ratio_task, reach_tasks, shift_tasks, first_refused}
use Rattle.pami_log.specs.declared.event.Move.{Move}
use Rattle.pami_log.specs.Events.{drops, last_moves}
use Rattle.pami_bfrt.specs.declared.walk.Walk.{Walk}
use Rattle.pami_vec.specs.declared.step.Step.{Step}
use Rattle.pami_minor.specs.declared.minor.Minor.{Minor}
use Rattle.pami_minor.specs.Steps.{IsStepOf, IsStepFor, FollowsWalk}
use Rattle.pami_minor.specs.Fresh.{IsPick}
use Rattle.pami_minor.specs.Follow.{Stops, IsStopped}
use Rattle.pami_batch.specs.declared.minors_turn.Taken.{Taken}
use Rattle.pami_batch.specs.declared.minors_turn.Taken.TheVariants as taken
use Rattle.pami_batch.specs.Told.{Tells, step_tasks, walk_tasks}
use Rattle.pami_batch.specs.Turns.{minor_at, behind_tasks, leave_tasks, step_moves, stuck_moves, IsLeft, IsTurn}
use Rattle.pami_batch.proofs.Refusals.{front_fits, both_fit}
use Rattle.pami_batch.proofs.Told.{told_stops, told_goes, told_of}
use Rattle.pami_batch.proofs.Scripts.{walk_fits}
use Rattle.pami_batch.proofs.Pivoting.{turn_stuck}
use Rattle.pami_batch.proofs.Rests.{row_refuses, picked_refuses}

-- ---- the answer of the walk
pub none_step : (f : Form) (b : Basis) (s : Fresh) (o : Option theory.Step) → IsStepFor f b s o None → o ≡ None
none_step f b s None h = refl
none_step f b s (Some t) h = absurd h

pub some_step : (f : Form) (b : Basis) (s : Fresh) (o : Option theory.Step) (step : Step) → IsStepFor f b s o (Some step)
    → (t : theory.Step) × (o ≡ Some t) × IsStepOf f b s t step
some_step f b s None step h = absurd (none-some step (sym h))
some_step f b s (Some t) step h = (t, refl, h)

-- ---- a refusal on the way
pub price_stops : {A : Type 0} (P : A → Type 0) (f : Form) (number : ℕ) (r : Reached) (row : InfeasibleRow) (Q : Taken → Type 0) (fault : Fault Place)
    → Tells P (price_tasks f number r row) (Err fault) → Tells Q (leave_tasks f number r row) (Err fault)
price_stops P f number r row Q fault h =
    told_stops P Q (price_tasks f number r row) (ratio_task f number r row ∷ behind_tasks f number r row (step_at f r.basis r.fresh row.place row.violation)) fault h

-- what comes behind the step of a walk
abbrev step_rest : Form → ℕ → Reached → InfeasibleRow → Option theory.Step → List Task
step_rest f number r row None = []
step_rest f number r row (Some t) = reach_tasks f number (minor_at f r row t) ++ shift_tasks f number (minor_at f r row t)

step_front : (f : Form) (number : ℕ) (r : Reached) (row : InfeasibleRow) (o : Option theory.Step)
    → step_tasks f number r o ++ step_rest f number r row o ≡ behind_tasks f number r row o
step_front f number r row None = refl
step_front f number r row (Some t) = refl

walk_front : (f : Form) (number : ℕ) (r : Reached) (row : InfeasibleRow)
    → price_tasks f number r row ++ (walk_tasks f number r row ++ step_rest f number r row (step_at f r.basis r.fresh row.place row.violation))
    ≡ leave_tasks f number r row
walk_front f number r row =
    ap (λ ts. price_tasks f number r row ++ ratio_task f number r row ∷ ts)
    (step_front f number r row (step_at f r.basis r.fresh row.place row.violation))

pub walk_stops : {A : Type 0} (P : A → Type 0) (f : Form) (number : ℕ) (r : Reached) (row : InfeasibleRow) (Q : Taken → Type 0) (fault : Fault Place)
    → first_refused (price_tasks f number r row) ≡ None → Tells P (walk_tasks f number r row) (Err fault) → Tells Q (leave_tasks f number r row) (Err fault)
walk_stops P f number r row Q fault e h =
    let rest : List Task = step_rest f number r row (step_at f r.basis r.fresh row.place row.violation) in
    subst (λ ts. Tells Q ts (Err fault)) (walk_front f number r row)
    (told_goes Q (price_tasks f number r row) (walk_tasks f number r row ++ rest) (Err fault) e (told_stops P Q (walk_tasks f number r row) rest fault h))

-- ---- a row that is stuck
walked_fits : (f : Form) (number : ℕ) (r : Reached) (row : InfeasibleRow) (answer : Walk × Option Step) → first_refused (price_tasks f number r row) ≡ None
    → FollowsWalk f r.basis r.fresh row.place row.violation (Ok answer)
    → first_refused (leave_tasks f number r row) ≡ first_refused (step_rest f number r row (step_at f r.basis r.fresh row.place row.violation))
walked_fits f number r row answer e w =
    let rest : List Task = step_rest f number r row (step_at f r.basis r.fresh row.place row.violation) in
    ap first_refused (sym (walk_front f number r row))
    ∙ front_fits (price_tasks f number r row) (walk_tasks f number r row ++ rest) e
    ∙ front_fits (walk_tasks f number r row) rest (walk_fits f number r row answer w)

pub stuck_fits : (f : Form) (number : ℕ) (r : Reached) (row : InfeasibleRow) (answer : Walk × Option Step) → first_refused (price_tasks f number r row) ≡ None
    → FollowsWalk f r.basis r.fresh row.place row.violation (Ok answer) → step_at f r.basis r.fresh row.place row.violation ≡ None
    → first_refused (leave_tasks f number r row) ≡ None
stuck_fits f number r row answer e w n =
    walked_fits f number r row answer e w ∙ ap (λ o. first_refused (step_rest f number r row o)) n

-- ---- a row that pivots
pub behind_stops : {A : Type 0} (P : A → Type 0) (f : Form) (number : ℕ) (r : Reached) (row : InfeasibleRow) (t : theory.Step) (answer : Walk × Option Step)
    (Q : Taken → Type 0) (fault : Fault Place) → first_refused (price_tasks f number r row) ≡ None
    → FollowsWalk f r.basis r.fresh row.place row.violation (Ok answer) → step_at f r.basis r.fresh row.place row.violation ≡ Some t
    → Tells P (reach_tasks f number (minor_at f r row t) ++ shift_tasks f number (minor_at f r row t)) (Err fault)
    → Tells Q (leave_tasks f number r row) (Err fault)
behind_stops P f number r row t answer Q fault e w k h =
    let rest : List Task = step_rest f number r row (step_at f r.basis r.fresh row.place row.violation) in
    let there : Tells Q rest (Err fault) = subst (λ o. Tells Q (step_rest f number r row o) (Err fault)) (sym k)
    (told_of P Q (reach_tasks f number (minor_at f r row t) ++ shift_tasks f number (minor_at f r row t)) fault h) in
    subst (λ ts. Tells Q ts (Err fault)) (walk_front f number r row)
    (told_goes Q (price_tasks f number r row) (walk_tasks f number r row ++ rest) (Err fault) e
    (told_goes Q (walk_tasks f number r row) rest (Err fault) (walk_fits f number r row answer w) there))

pub pivot_fits : (f : Form) (number : ℕ) (r : Reached) (row : InfeasibleRow) (t : theory.Step) (answer : Walk × Option Step)
    → first_refused (price_tasks f number r row) ≡ None → FollowsWalk f r.basis r.fresh row.place row.violation (Ok answer)
    → step_at f r.basis r.fresh row.place row.violation ≡ Some t
    → first_refused (reach_tasks f number (minor_at f r row t) ++ shift_tasks f number (minor_at f r row t)) ≡ None
    → first_refused (leave_tasks f number r row) ≡ None
pivot_fits f number r row t answer e w k h =
    walked_fits f number r row answer e w ∙ ap (λ o. first_refused (step_rest f number r row o)) k ∙ h

-- ---- the turn
pub turn_stops : (f : Form) (limit : ℕ) (r : Reached) (number : ℕ) (before after : Minor) (old new : List Move) (ds : List ℕ)
    → Stops f limit r ds → IsStopped f limit r after → after.steps.items ≡ before.steps.items → new ≡ old ++ drops ds
    → first_refused (row_task f limit number r ∷ []) ≡ None → IsTurn f limit r number before after old new (Ok taken.Stopped)
turn_stops f limit r number before after old new ds (inl s) p q e n =
    (inl s.0, p, q, e ∙ ap (λ vs. old ++ drops vs) s.1 ∙ ap (λ t. old ++ last_moves r t) (sym s.0), n)
turn_stops f limit r number before after old new ds (inr s) p q e n =
    (inr (dropped f r, s.0), p, q, e ∙ ap (λ vs. old ++ drops vs) s.1 ∙ ap (λ t. old ++ last_moves r t) (sym s.0), n)

picked_fits : (f : Form) (limit number : ℕ) (r : Reached) (row : InfeasibleRow) → first_refused (row_task f limit number r ∷ []) ≡ None
    → first_refused (leave_tasks f number r row) ≡ None → first_refused (row_task f limit number r ∷ leave_tasks f number r row) ≡ None
picked_fits f limit number r row e h = both_fit (row_task f limit number r ∷ []) (leave_tasks f number r row) e h

pub turn_leaves : (f : Form) (limit : ℕ) (r : Reached) (row : InfeasibleRow) (number : ℕ) (before picked after : Minor) (old mid new : List Move)
    (result : Result Taken (Fault Place)) → IsPick f limit r row → picked.steps.items ≡ before.steps.items → mid ≡ old ++ drops (dropped f r)
    → first_refused (row_task f limit number r ∷ []) ≡ None
    → Tells (IsLeft f limit r row picked after mid new) (leave_tasks f number r row) result
    → IsTurn f limit r number before after old new result
turn_leaves f limit r row number before picked after old mid new (Ok taken.Stopped) p q e n h = absurd h.1
turn_leaves f limit r row number before picked after old mid new (Ok (taken.Stuck rho)) p q e n h =
    let stuck = turn_stuck f limit r row p h.1.0 in (
      row,
      stuck,
      h.1.1,
      h.1.2 ∙ ap (λ ms. ms ++ stuck_moves r row) e ∙ append_assoc old (drops (dropped f r)) (stuck_moves r row) ∙ ap (λ t. old ++ last_moves r t) (sym stuck),
      ap (λ o. first_refused (row_task f limit number r ∷ (price_tasks f number r row ++ ratio_task f number r row ∷ behind_tasks f number r row o))) (sym h.1.0)
          ∙ picked_fits f limit number r row n h.0,
    )
turn_leaves f limit r row number before picked after old mid new (Ok taken.Pivoted) p q e n h =
    let t = h.1.0 in
    let b = h.1.3 in (
      minor_at f r row t,
      h.1.1,
      refl,
      record { pivot = b.pivot; fresh = b.fresh; step = b.step; step_is = b.step_is; steps = b.steps ∙ ap (λ ss. ss ++ b.step ∷ []) q },
      h.1.4 ∙ ap (λ ms. ms ++ step_moves r t) e ∙ append_assoc old (drops (dropped f r)) (step_moves r t),
      ap (λ o. first_refused (row_task f limit number r ∷ (price_tasks f number r row ++ ratio_task f number r row ∷ behind_tasks f number r row o))) (sym h.1.2)
          ∙ picked_fits f limit number r row n h.0,
    )
turn_leaves f limit r row number before picked after old mid new (Err (faults.Named place)) p q e n h =
    picked_refuses f limit r row number place p (front_fits (row_task f limit number r ∷ []) (leave_tasks f number r row) n ∙ h)
turn_leaves f limit r row number before picked after old mid new (Err faults.OutOfMemory) p q e n h = tt

pub turn_refused : {A : Type 0} (P : A → Type 0) (f : Form) (limit : ℕ) (r : Reached) (number : ℕ) (before after : Minor) (old new : List Move)
    (fault : Fault Place) → Tells P (row_task f limit number r ∷ []) (Err fault) → IsTurn f limit r number before after old new (Err fault)
turn_refused P f limit r number before after old new (faults.Named place) h = row_refuses f limit r number place h
turn_refused P f limit r number before after old new faults.OutOfMemory h = tt
