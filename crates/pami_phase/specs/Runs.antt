-- What a form is answered, and what is told of its run.
use Rattle.std.specs.Prelude.{◌≡◌, ◌<◌, ◌≤◌, ◌+◌, ℕ, List, [], ◌∷◌, ◌++◌, length, Option, None, Some, Result, Ok, Err}
use Rattle.pami_linear.specs.Lists.{get}
use Rattle.pami_frac.specs.declared.fault.Fault.{Fault}
use Rattle.pami_frac.specs.declared.fault.Fault.TheVariants as faults
use Rattle.pami_theory.specs.Boxes.{boxes_of, CanBeDualFeasible, switched_basis}
use Rattle.pami_theory.specs.Form as theory
use Rattle.pami_theory.specs.Basis.{IsBasis, IsRegularBasis}
use Rattle.pami_theory.specs.Fresh.{Fresh, IsFresh, IsDualFeasible}
use Rattle.pami_theory.specs.Start.{starting_basis}
use Rattle.pami_theory.specs.Certificate.{HoldsOptimal, HoldsInfeasible, HoldsDualInfeasible}
use Rattle.pami_method.specs.declared.words.Mode.TheVariants.{Full}
use Rattle.pami_method.specs.declared.words.Options.{Options}
use Rattle.pami_method.specs.Walk as method
use Rattle.pami_method.specs.Phases as phases
use Rattle.pami_method.specs.Phases.{IsRun, IsPhaseOne, Record, Phase, start_refused, starting_state}
use Rattle.pami_state.specs.declared.state.State.{State}
use Rattle.pami_state.specs.State.{basis_of, IsSolvedAfresh}
use Rattle.pami_log.specs.declared.event.Event.{Event}
use Rattle.pami_log.specs.declared.event.Event.TheVariants as told
use Rattle.pami_log.specs.declared.teller.TellFailed.{TellFailed}
use Rattle.pami_log.specs.Events.{events_of}
use Rattle.pami_log.specs.Tellers.{GoesOn}
use Rattle.pami_form.specs.FormOf.{form_of}
use Rattle.pami_batch.specs.Factors.{HasFactor}
use Rattle.pami_phase.specs.declared.answer.Answer.{Answer}
use Rattle.pami_phase.specs.declared.answer.Answer.TheVariants as answers

-- ---- the answer
-- a last state of the program is that of the method, which has the fresh values s on the form
pub record IsLast (f : theory.Form) (state : State) (st : method.State) (s : Fresh) : Type 0 where
  pub same : st.basis ≡ basis_of state
  pub counted : st.count ≡ state.pivots
  pub weights : st.weights ≡ state.weights
  pub basis : IsBasis f (basis_of state)
  pub solved : IsSolvedAfresh f state
  pub fresh : solved.fresh ≡ s

-- a last state at the limit is that of the method, on a form with these variables; either phase may end so
pub record IsStopped (variables : ℕ) (state : State) (st : method.State) : Type 0 where
  pub same : st.basis ≡ basis_of state
  pub counted : st.count ≡ state.pivots
  pub weights : st.weights ≡ state.weights
  pub stands : length state.stands ≡ variables

-- the program's answer is the method's; behind an optimal end the factor is that of the last kept major, or of the switch, or
-- none where there was neither
abbrev pub IsAnswerOf : theory.Form → Answer → phases.Answer → Type 0
IsAnswerOf f (answers.Optimal state factor) (phases.Optimal st s) = IsLast f state st s × HasFactor f st.history (basis_of state) factor
IsAnswerOf f (answers.Infeasible ray) (phases.Infeasible y) = (ray ≡ y) × (length ray ≡ f.rows)
IsAnswerOf f (answers.DualInfeasible state boxes) (phases.DualInfeasible st s) = IsLast (boxes_of f) state st s × (form_of boxes ≡ boxes_of f)
IsAnswerOf f (answers.Limit state) (phases.Limit st) = IsStopped (theory.variables f) state st
IsAnswerOf f (answers.Overflow place) (phases.Overflow refused) = place ≡ refused
IsAnswerOf f answer a = ⊥

-- the form of a phase that began, or else another one
abbrev pub form_or : theory.Form → Option Phase → theory.Form
form_or f None = f
form_or f (Some p) = p.form

-- the form of the phase in which a run of f ended, which is its last one
abbrev pub last_form : theory.Form → Record → theory.Form
last_form f r = form_or (form_or f r.phase_one) r.phase_two

-- a state at a basis of the form, solved afresh there
pub record IsSolvedOn (f : theory.Form) (state : State) : Type 0 where
  pub basis : IsBasis f (basis_of state)
  pub solved : IsSolvedAfresh f state

-- and so is the last state of an answer that has one
abbrev pub HasSolvedState : theory.Form → Answer → Type 0
HasSolvedState f (answers.Optimal state factor) = IsSolvedOn f state
HasSolvedState f (answers.Infeasible y) = Unit {0}
HasSolvedState f (answers.DualInfeasible state boxes) = IsSolvedOn f state
HasSolvedState f (answers.Limit state) = IsSolvedOn f state
HasSolvedState f (answers.Overflow place) = Unit {0}

-- the program's answer is that of a run of f with this record, and its last state is solved afresh on the form of the phase in
-- which the run ended
pub record IsAnswerOfRun (f : theory.Form) (r : Record) (answer : Answer) (a : phases.Answer) : Type 0 where
  pub is : IsAnswerOf f answer a
  pub state : HasSolvedState (last_form f r) answer

-- the answer's values are its certificate
abbrev pub HasCertificate : theory.Form → Answer → Type 0
HasCertificate f (answers.Optimal state factor) = (a : IsSolvedAfresh f state) × HoldsOptimal f (get a.fresh.values) (get a.fresh.reduced)
HasCertificate f (answers.Infeasible y) = HoldsInfeasible f (get y)
HasCertificate f (answers.DualInfeasible state boxes) = (a : IsSolvedAfresh (boxes_of f) state) × HoldsDualInfeasible f (get a.fresh.values)
HasCertificate f (answers.Limit state) = Unit {0}
HasCertificate f (answers.Overflow place) = Unit {0}

-- ---- what is told
abbrev pub phase_events : Options → ℕ → Option Phase → List Event
phase_events o k None = []
phase_events o k (Some p) = told.Phase k ∷ events_of p.form o p.start p.majors

-- the events of a run, behind its header
abbrev pub record_events : Options → Record → List Event
record_events o r = phase_events o 1 r.phase_one ++ phase_events o 2 r.phase_two

-- a run of the form with this answer, whose events are these behind those before
pub record IsRunBehind (f : theory.Form) (o : Options) (before events : List Event) (a : phases.Answer) : Type 0 where
  pub record_of : Record
  pub run : IsRun f o record_of a
  pub whole : record_events o record_of ≡ before ++ events

-- some run of the form begins with these events
pub record BeginsRun (f : theory.Form) (o : Options) (events : List Event) : Type 0 where
  pub answer : phases.Answer
  pub later : List Event
  pub run : IsRunBehind f o events later answer

-- how a run ends behind these events, where further ones are told: with its answer; or the teller failed at the last one and
-- is stopped in it; or memory ran out, and the teller stands for those before. What was told is the front of the run's events.
abbrev pub EndsRun : theory.Form → Options → List Event → (List Event → Type 0) → (List Event → Type 0) → (List Event → Type 0)
    → ℕ → ℕ → Result Answer (Fault TellFailed) → Type 0
EndsRun f o before stood stands stopped old new (Ok answer) =
    (events : List Event) × (a : phases.Answer) × (run : IsRunBehind f o before events a) × IsAnswerOfRun f run.record_of answer a
    × GoesOn stood stands events × (new ≡ old)
EndsRun f o before stood stands stopped old new (Err (faults.Named failed)) =
    (events : List Event) × (last : Event) × BeginsRun f o (before ++ (events ++ last ∷ []))
    × GoesOn stood stopped (events ++ last ∷ []) × (old < new)
EndsRun f o before stood stands stopped old new (Err faults.OutOfMemory) =
    (events : List Event) × BeginsRun f o (before ++ events) × GoesOn stood stands events × (new ≡ old)

-- ---- the stages
-- the start of a form fits
pub record Starts (f : theory.Form) : Type 0 where
  pub fresh : Fresh
  pub fresh_is : IsFresh f (starting_basis f) fresh
  pub fits : start_refused f fresh ≡ None

-- and phase one follows
pub record StartsInBoxes (f : theory.Form) : Type 0 where
  pub starts : Starts f
  pub not_feasible : ¬ IsDualFeasible f (starting_basis f)

-- each walk from here on the form, behind so many majors, is the rest of a run whose events begin with those before, in phase two
abbrev pub LeadsOn : theory.Form → Options → List Event → ℕ → method.State → Type 0
LeadsOn f o before tried first =
    (majors : List method.Major) (end : method.WalkEnd) (a : phases.Answer) → method.IsWalk f o (tried + 1) Full first majors end → phases.IsAnswer f end a
    → (run : IsRunBehind f o before (events_of f o first majors) a) × (last_form f run.record_of ≡ f)

-- phase one and the majors that were tried there
abbrev pub boxes_events : theory.Form → Options → List method.Major → List Event
boxes_events f o majors = told.Phase 1 ∷ events_of (boxes_of f) o (starting_state (boxes_of f)) majors

-- phase one of a run ended optimal at st, behind these majors
pub record EndsInBoxes (f : theory.Form) (o : Options) (majors : List method.Major) (st : method.State) : Type 0 where
  pub starts : StartsInBoxes f
  pub phase : IsPhaseOne f o majors (method.Optimal st)

-- and this is its state and the count of its majors
pub record IsBoxesEnd (f : theory.Form) (o : Options) (majors : List method.Major) (st : method.State) (state : State) (tried : ℕ) : Type 0 where
  pub ended : EndsInBoxes f o majors st
  pub same : st.basis ≡ basis_of state
  pub counted : st.count ≡ state.pivots
  pub weights : st.weights ≡ state.weights
  pub tried_is : tried ≡ length majors

-- and this state has the variables where the switch puts them
pub record IsSwitchedFrom (f : theory.Form) (o : Options) (majors : List method.Major) (st : method.State) (moved : State) (tried : ℕ) : Type 0 where
  pub ended : EndsInBoxes f o majors st
  pub boxed : Fresh
  pub boxed_is : IsFresh (boxes_of f) st.basis boxed
  pub feasible : CanBeDualFeasible f st.basis
  pub same : basis_of moved ≡ switched_basis f st.basis boxed.reduced
  pub counted : st.count ≡ moved.pivots
  pub tried_is : tried ≡ length majors

-- a state that may be switched to: its basis is a dual feasible one of the form, with these reduced costs
pub record IsSwitchable (f : theory.Form) (limit : ℕ) (moved : State) : Type 0 where
  pub basis : IsBasis f (basis_of moved)
  pub regular : IsRegularBasis f (basis_of moved)
  pub feasible : IsDualFeasible f (basis_of moved)
  pub values : length moved.values ≡ length moved.head
  pub reduced : (t : Fresh) → IsFresh f (basis_of moved) t → moved.reduced ≡ t.reduced
  pub within : moved.pivots ≤ limit
