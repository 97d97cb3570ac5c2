-- The factors along a walk and a run: a history stands for the basis of its state.
use Rattle.std.specs.Prelude.{◌≡◌, List, [], ◌∷◌, Option, None, Some}
use Rattle.pami_theory.specs.Form.{Form}
use Rattle.pami_theory.specs.Basis.{Basis, IsBasis}
use Rattle.pami_method.specs.declared.words.Options.{Options}
use Rattle.pami_method.specs.Factor.{History}
use Rattle.pami_method.specs.Walk.{State, Major, After, Ends, GoesOn, after}
use Rattle.pami_method.specs.Phases.{Phase}
use Rattle.pami_deferral.specs.Factored.{IsHistoryOf}

-- where there is a history, it is one of the basis
abbrev pub IsNoneOrHistoryOf : Form → Basis → Option History → Type 0
IsNoneOrHistoryOf f b None = Unit {0}
IsNoneOrHistoryOf f b (Some h) = IsHistoryOf f h b

-- a state from which a major may be tried
pub record IsFactored (f : Form) (st : State) : Type 0 where
  pub basis : IsBasis f st.basis
  pub history : IsNoneOrHistoryOf f st.basis st.history

-- a state that has a factor
pub record HasFactor (f : Form) (st : State) : Type 0 where
  pub history : History
  pub is : st.history ≡ Some history
  pub stands : IsHistoryOf f history st.basis

-- ---- all states of a walk: the first one, and each from which it goes on behind a major
abbrev pub WhereItGoesOn : (State → Type 0) → After → Type 0
WhereItGoesOn holds (Ends end) = Unit {0}
WhereItGoesOn holds (GoesOn mode st) = holds st

abbrev pub AllStates : (State → Type 0) → Form → Options → State → List Major → Type 0
AllStates holds f o st [] = holds st
AllStates holds f o st (g ∷ gs) = holds st × WhereItGoesOn (λ next. AllStates holds f o next gs) (after f o st g)

-- of the walk of a phase, where it began
abbrev pub IsFactoredPhase : Options → Option Phase → Type 0
IsFactoredPhase o None = Unit {0}
IsFactoredPhase o (Some p) = AllStates (IsFactored p.form) p.form o p.start p.majors
