-- What a walk tells of its majors and of its end.
use Rattle.std.specs.Prelude.{◌≡◌, ◌⊎◌, ℕ, ◌+◌, ◌*◌, ◌-◌, ◌<◌, ◌≤◌, List, [], ◌∷◌, ◌++◌, length, Option, None, Result, Ok, Err}
use Rattle.std.specs.Result.{IfOk}
use Rattle.pami_frac.specs.declared.fault.Fault.{Fault}
use Rattle.pami_frac.specs.declared.fault.Fault.TheVariants as faults
use Rattle.pami_theory.specs.Form as theory
use Rattle.pami_theory.specs.Fresh.{Fresh, IsFresh}
use Rattle.pami_method.specs.Factor.{History}
use Rattle.pami_method.specs.declared.words.Mode.{Mode}
use Rattle.pami_method.specs.declared.words.Mode.TheVariants as modes
use Rattle.pami_method.specs.declared.words.Options.{Options}
use Rattle.pami_method.specs.Walk as method
use Rattle.pami_form.specs.declared.form.Form.{Form}
use Rattle.pami_form.specs.FormOf.{form_of}
use Rattle.pami_state.specs.declared.state.State.{State}
use Rattle.pami_state.specs.State.{basis_of}
use Rattle.pami_log.specs.declared.event.Event.{Event}
use Rattle.pami_log.specs.declared.teller.TellFailed.{TellFailed}
use Rattle.pami_log.specs.Events.{events_of}
use Rattle.pami_log.specs.Tellers.{GoesOn, Tells}
use Rattle.pami_factor.specs.Value.{Product}
use Rattle.pami_batch.specs.Factors.{HasFactor}
use Rattle.pami_major.specs.Ready.{IsReady}
use Rattle.pami_major.specs.EndsMajor.{walk_state}
use Rattle.pami_major.specs.declared.walk.WalkEnd.{WalkEnd}
use Rattle.pami_major.specs.declared.walk.WalkEnd.TheVariants as ends
use Rattle.pami_major.specs.declared.walk.Turned.{Turned}
use Rattle.pami_major.specs.declared.walk.Turned.TheVariants as turns

-- ---- the walk
-- the end that is told is the walk's, and the last state is the walk's where it has one
abbrev pub IsTold : WalkEnd → State → method.WalkEnd → Type 0
IsTold ends.Optimal last (method.Optimal st) = (st.basis ≡ basis_of last) × (st.count ≡ last.pivots)
IsTold ends.Limit last (method.Limit st) = (st.basis ≡ basis_of last) × (st.count ≡ last.pivots)
IsTold (ends.NoEntering place side rho) last (method.NoEntering p s row) = (p ≡ place) × (s ≡ side) × (row ≡ rho)
IsTold (ends.Overflow place) last (method.Overflow refused) = place ≡ refused
IsTold told last end = ⊥

-- the state behind the majors of a walk: that of the last one that was kept, or the first state where none was
abbrev pub state_by : method.After → method.State → (method.State → method.State) → method.State
state_by (method.Ends end) st later = st
state_by (method.GoesOn mode next) st later = later next

abbrev pub last_state : theory.Form → Options → method.State → List method.Major → method.State
last_state f o st [] = st
last_state f o st (g ∷ gs) = state_by (method.after f o st g) st (λ next. last_state f o next gs)

-- a walk from this state on, whose first major has the number behind `tried`, with its majors, that ends so, in this last
-- state, behind so many majors, and has these events
pub record IsWalked (f : theory.Form) (o : Options) (tried : ℕ) (first : method.State) (told : WalkEnd) (last : State) (tried_now : ℕ) (events : List Event) : Type 0 where
  pub majors : List method.Major
  pub end : method.WalkEnd
  pub walk : method.IsWalk f o (tried + 1) modes.Full first majors end
  pub told_end : IsTold told last end
  pub told_state : (h : Option History) × (last_state f o first majors ≡ walk_state last h)
  pub told_events : events ≡ events_of f o first majors
  pub counted : tried_now ≡ tried + length majors

-- ---- a walk on its way
-- The factor where the walk goes on: for a Full major it has the history that the walk has there; a Single major, which
-- eliminates anew whatever the factor is, is due.
abbrev pub IsFactorFor : theory.Form → Mode → Option History → State → Option Product → Type 0
IsFactorFor f modes.Full h st factor = HasFactor f h (basis_of st) factor
IsFactorFor f modes.Single h st factor = (s : Fresh) × IsFresh f (basis_of st) s × method.NeedsMajor f (walk_state st h) s

-- what was told so far, and where the walk goes on: a state that is ready, its factor, a count of majors and a mode for the
-- next one. Whatever majors follow from there are the rest of a walk from the first state.
pub record IsUnderway (form : Form) (o : Options) (tried : ℕ) (first : method.State) (state : State) (factor : Option Product) (mode : Mode) (tried_now : ℕ) (events : List Event) : Type 0 where
  pub ready : IsReady form o.limit state
  pub history : Option History
  pub factor_is : IsFactorFor (form_of form) mode history state factor
  pub rest : (gs : List method.Major) (end : method.WalkEnd) → method.IsWalk (form_of form) o (tried_now + 1) mode (walk_state state history) gs end
      → (all : List method.Major) × method.IsWalk (form_of form) o (tried + 1) modes.Full first all end
      × (events_of (form_of form) o first all ≡ events ++ events_of (form_of form) o (walk_state state history) gs)
      × (last_state (form_of form) o first all ≡ last_state (form_of form) o (walk_state state history) gs)
      × (tried + length all ≡ tried_now + length gs)

-- what falls with each major that is tried: two for each pivot that is left, and one more where the next major is Full
abbrev pub majors_left : ℕ → State → Mode → ℕ
majors_left limit state modes.Full = 2 * (limit - state.pivots) + 1
majors_left limit state modes.Single = 2 * (limit - state.pivots)

-- so many further majors were tried, with at most so many steps each
pub record AreCounted (tried tried_now each steps steps_now : ℕ) : Type 0 where
  pub majors : ℕ
  pub tried_are : tried_now ≡ tried + majors
  pub steps_are : steps_now ≤ steps + majors * each

-- the factor of a walk is none or one of its state
abbrev pub HasSomeFactor : theory.Form → State → Option Product → Type 0
HasSomeFactor f st factor = (h : Option History) × HasFactor f h (basis_of st) factor

-- ---- the end
-- a row without an entering variable goes by row
abbrev pub IsRowOfEnd : Form → WalkEnd → Type 0
IsRowOfEnd form ends.Optimal = Unit {0}
IsRowOfEnd form ends.Limit = Unit {0}
IsRowOfEnd form (ends.NoEntering place side rho) = length rho ≡ (form_of form).rows
IsRowOfEnd form (ends.Overflow place) = Unit {0}

-- behind an optimal end the factor has the history that the walk has there: it is that of the last kept major, or the first
-- one where none was kept
abbrev pub IsFactorOfEnd : theory.Form → method.WalkEnd → State → Option Product → Type 0
IsFactorOfEnd f (method.Optimal st) last factor = HasFactor f st.history (basis_of last) factor
IsFactorOfEnd f (method.Limit st) last factor = Unit {0}
IsFactorOfEnd f (method.NoEntering place side row) last factor = Unit {0}
IsFactorOfEnd f (method.Overflow refused) last factor = Unit {0}

-- what a walk from this state tells, with a last state that is ready, and its factor
pub record IsWalkedWhole (form : Form) (o : Options) (tried : ℕ) (first : method.State) (end : WalkEnd) (state : State) (factor : Option Product) (tried_now : ℕ) (events : List Event) : Type 0 where
  pub walked : IsWalked (form_of form) o tried first end state tried_now events
  pub ready : IsReady form o.limit state
  pub row : IsRowOfEnd form end
  pub factor_is : IsFactorOfEnd (form_of form) walked.end state factor

-- some walk from this state begins with these events
pub record BeginsWalk (f : theory.Form) (o : Options) (tried : ℕ) (first : method.State) (events : List Event) : Type 0 where
  pub majors : List method.Major
  pub end : method.WalkEnd
  pub walk : method.IsWalk f o (tried + 1) modes.Full first majors end
  pub later : List Event
  pub whole : events_of f o first majors ≡ events ++ later

-- a state that the walk has reached when these events were told, which are the first of its events: it goes on from there, or
-- ends there
pub record IsReached (form : Form) (o : Options) (tried : ℕ) (first : method.State) (state : State) (events : List Event) : Type 0 where
  pub begins : BeginsWalk (form_of form) o tried first events
  pub at :
      ((mode : Mode) × (tried_now : ℕ) × (factor : Option Product) × IsUnderway form o tried first state factor mode tried_now events)
      ⊎ ((end : WalkEnd) × (tried_now : ℕ) × (factor : Option Product) × IsWalkedWhole form o tried first end state factor tried_now events)

-- how a walk ends behind these events, where further ones are told: it ended, or the teller failed at the last one and is
-- stopped in it, or memory ran out and the teller stands for those before
abbrev pub EndsSo : Form → Options → ℕ → method.State → List Event → State → Option Product → ℕ
    → (List Event → Type 0) → (List Event → Type 0) → (List Event → Type 0) → ℕ → ℕ → Result WalkEnd (Fault TellFailed) → Type 0
EndsSo form o tried first before state factor tried_now stood stands stopped old new (Ok end) =
    (more : List Event) × IsWalkedWhole form o tried first end state factor tried_now (before ++ more) × GoesOn stood stands more × (new ≡ old)
EndsSo form o tried first before state factor tried_now stood stands stopped old new (Err (faults.Named failed)) =
    (more : List Event) × (event : Event) × IsReached form o tried first state (before ++ (more ++ event ∷ [])) × GoesOn stood stopped (more ++ event ∷ []) × (old < new)
EndsSo form o tried first before state factor tried_now stood stands stopped old new (Err faults.OutOfMemory) =
    (more : List Event) × IsReached form o tried first state (before ++ more) × GoesOn stood stands more × (new ≡ old)

-- ---- one turn
-- behind one major the walk has ended, or goes on with fewer majors left
abbrev pub FollowsTurn : Form → Options → ℕ → method.State → List Event → State → Mode → ℕ → State → Option Product → ℕ
    → (List Event → Type 0) → (List Event → Type 0) → (List Event → Type 0) → ℕ → ℕ → Turned → Type 0
FollowsTurn form o tried first before old mode tried_old new factor tried_now stood stands stopped n m (turns.Ends outcome) =
    EndsSo form o tried first before new factor tried_now stood stands stopped n m outcome × IfOk outcome (λ end. tried_now ≤ tried_old + 1)
FollowsTurn form o tried first before old mode tried_old new factor tried_now stood stands stopped n m (turns.GoesOn next) =
    ((more : List Event) × IsUnderway form o tried first new factor next tried_now (before ++ more) × GoesOn stood stands more × (m ≡ n))
    × (tried_now ≡ tried_old + 1) × (majors_left o.limit new next < majors_left o.limit old mode)

-- an event was told, and `next` follows; or it couldn't be told, and the walk ends
abbrev pub FollowsTold : Event → Turned → (List Event → Type 0) → (List Event → Type 0) → (List Event → Type 0) → ℕ → ℕ → Turned → Type 0
FollowsTold event next stood stands stopped n m turned =
    ((turned ≡ next) × GoesOn stood stands (event ∷ []) × (m ≡ n))
    ⊎ ((fault : Fault TellFailed) × (turned ≡ turns.Ends (Err fault)) × Tells {A = Turned} stood stands stopped n m event (Err fault))

-- a kept major was told, and a Full one follows, or the teller failed, and both times the state and the factor stay; or memory
-- ran out, and the state is the one before, without a factor
abbrev pub FollowsKept : Event → (before old new : State) → (factor factor_now : Option Product)
    → (List Event → Type 0) → (List Event → Type 0) → (List Event → Type 0) → ℕ → ℕ → Turned → Type 0
FollowsKept event before old new factor factor_now stood stands stopped n m (turns.GoesOn mode) =
    (mode ≡ modes.Full) × (new ≡ old) × (factor_now ≡ factor) × GoesOn stood stands (event ∷ []) × (m ≡ n)
FollowsKept event before old new factor factor_now stood stands stopped n m (turns.Ends (Ok end)) = ⊥
FollowsKept event before old new factor factor_now stood stands stopped n m (turns.Ends (Err (faults.Named failed))) =
    (new ≡ old) × (factor_now ≡ factor) × GoesOn stood stopped (event ∷ []) × (n < m)
FollowsKept event before old new factor factor_now stood stands stopped n m (turns.Ends (Err faults.OutOfMemory)) =
    (new ≡ before) × (factor_now ≡ None) × GoesOn stood stands [] × (m ≡ n)
