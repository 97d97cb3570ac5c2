-- What a major comes to, by the state and the factor before it.
use Rattle.std.specs.Prelude.{◌≡◌, ◌⊎◌, ℕ, ◌<◌, List, ◌∷◌, ◌++◌, [], length, Option, None, Some, Result, Ok, Err}
use Rattle.pami_algebra.specs.Fraction.{Fraction}
use Rattle.pami_theory.specs.Form as theory
use Rattle.pami_theory.specs.declared.words.Side.{Side}
use Rattle.pami_method.specs.Factor.{History}
use Rattle.pami_method.specs.declared.words.Mode.{Mode}
use Rattle.pami_method.specs.declared.words.Mode.TheVariants.{Full, Single}
use Rattle.pami_method.specs.declared.words.Options.{Options}
use Rattle.pami_method.specs.declared.words.Place.{Place}
use Rattle.pami_method.specs.Walk as method
use Rattle.pami_form.specs.declared.form.Form.{Form}
use Rattle.pami_form.specs.FormOf.{form_of}
use Rattle.pami_state.specs.State.{basis_of}
use Rattle.pami_state.specs.declared.state.State.{State}
use Rattle.pami_log.specs.declared.event.Event.{Event}
use Rattle.pami_log.specs.declared.event.Event.TheVariants as told
use Rattle.pami_log.specs.declared.event.Move.{Move}
use Rattle.pami_log.specs.declared.event.Move.TheVariants as told_moves
use Rattle.pami_log.specs.Events.{major_event}
use Rattle.pami_factor.specs.Value.{Product}
use Rattle.pami_batch.specs.Factors.{HasFactor}
use Rattle.pami_major.specs.Ready.{IsReady}
use Rattle.pami_major.specs.declared.majors.MajorEnd.{MajorEnd}
use Rattle.pami_major.specs.declared.majors.MajorEnd.TheVariants as majors

-- the state of the method that a state of the program is, with this history of its factor
abbrev pub walk_state : State → Option History → method.State
walk_state st h = record { basis = basis_of st; weights = st.weights; count = st.pivots; history = h }

-- The factor has this history, as far as a major in this mode asks: a Full one may work with the factor, a Single one
-- eliminates anew whatever there was.
abbrev pub IsKnownFor : theory.Form → Mode → Option History → State → Option Product → Type 0
IsKnownFor f Full h st factor = HasFactor f h (basis_of st) factor
IsKnownFor f Single h st factor = Unit {0}

-- a kept major from this state, with its event, and what the walk goes on from: a state that is ready again and has
-- more pivots, and the factor behind it
pub record IsKept (form : Form) (o : Options) (number : ℕ) (mode : Mode) (st : method.State) (new : State)
    (behind : Option Product) (event : Event) : Type 0 where
  pub major : method.Major
  pub due : method.IsDue (form_of form) o number mode st major
  pub fits : method.refused_in (form_of form) o st major ≡ None
  pub history : History
  pub goes : method.after (form_of form) o st major ≡ method.GoesOn Full (walk_state new (Some history))
  pub factor : HasFactor (form_of form) (Some history) (basis_of new) behind
  pub told : event ≡ major_event (form_of form) o.limit major
  pub ready : IsReady form o.limit new
  pub counted : st.count < new.pivots

-- a major whose last row has no entering variable, with its event
pub record IsStuck (form : Form) (o : Options) (number : ℕ) (mode : Mode) (st : method.State) (event : Event)
    (place : ℕ) (side : Side) (rho : List Fraction) : Type 0 where
  pub major : method.Major
  pub due : method.IsDue (form_of form) o number mode st major
  pub fits : method.refused_in (form_of form) o st major ≡ None
  pub ends : method.after (form_of form) o st major ≡ method.Ends (method.NoEntering place side rho)
  pub told : event ≡ major_event (form_of form) o.limit major
  pub by_row : length rho ≡ (form_of form).rows

-- the last move tells the place without an entering variable, and the side on which its variable is outside
pub record EndsStuck (moves : List Move) (place : ℕ) (side : Side) : Type 0 where
  pub before : List Move
  pub leaving : ℕ
  pub last : moves ≡ before ++ told_moves.Stuck place leaving side ∷ []

-- a major that is refused at this operation
pub record IsRefused (form : Form) (o : Options) (number : ℕ) (mode : Mode) (st : method.State)
    (place : Place) : Type 0 where
  pub major : method.Major
  pub due : method.IsDue (form_of form) o number mode st major
  pub refused : Place
  pub is_refused : method.refused_in (form_of form) o st major ≡ Some refused
  pub told : place ≡ refused

-- No major is due, as the walk has it; or one was tried in this mode: a kept one led to the new state and to the factor
-- behind it, and any other left the state as it was.
abbrev pub EndsMajor : Form → Options → ℕ → Mode → Option History → State → State → Option Product → MajorEnd → Type 0
EndsMajor form o number mode h old new factor majors.Optimal =
    (new ≡ old) × method.EndsAt (form_of form) o (walk_state old h) (method.Optimal (walk_state old h))
EndsMajor form o number mode h old new factor majors.Limit =
    (new ≡ old) × method.EndsAt (form_of form) o (walk_state old h) (method.Limit (walk_state old h))
EndsMajor form o number mode h old new factor (majors.Moved chosen moves) =
    IsKept form o number mode (walk_state old h) new factor (told.Major number mode chosen moves)
EndsMajor form o number mode h old new factor (majors.NoEntering chosen rho moves) =
    (new ≡ old) × (place : ℕ) × (side : Side) × EndsStuck moves place side
    × IsStuck form o number mode (walk_state old h) (told.Major number mode chosen moves) place side rho
EndsMajor form o number mode h old new factor (majors.Refused place) =
    (new ≡ old) × IsRefused form o number mode (walk_state old h) place

-- where no major was due the factor is as before; where one was tried and not kept it is as before, or there is none
abbrev pub LeavesFactor : {E : Type 0} → Result MajorEnd E → Option Product → Option Product → Type 0
LeavesFactor (Ok majors.Optimal) old new = new ≡ old
LeavesFactor (Ok majors.Limit) old new = new ≡ old
LeavesFactor (Ok (majors.Moved chosen moves)) old new = Unit {0}
LeavesFactor (Ok (majors.NoEntering chosen rho moves)) old new = (new ≡ old) ⊎ (new ≡ None)
LeavesFactor (Ok (majors.Refused place)) old new = (new ≡ old) ⊎ (new ≡ None)
LeavesFactor (Err e) old new = (new ≡ old) ⊎ (new ≡ None)
