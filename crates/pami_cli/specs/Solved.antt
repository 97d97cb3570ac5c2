-- What is known of a form's run where its answer is printed.
use Rattle.std.specs.Prelude.{List, []}
use Rattle.pami_linear.specs.Lists.{get}
use Rattle.pami_theory.specs.Form.{Form}
use Rattle.pami_theory.specs.Fresh.{IsDualFeasible, HasInfeasible}
use Rattle.pami_method.specs.declared.words.Options.{Options}
use Rattle.pami_method.specs.Phases as phases
use Rattle.pami_log.specs.declared.event.Event.{Event}
use Rattle.pami_phase.specs.declared.answer.Answer.{Answer}
use Rattle.pami_phase.specs.Runs.{IsRunBehind, IsAnswerOf}

-- at the last basis of an optimal answer the signs are right and no place is infeasible
abbrev pub EndsBest : Form → phases.Answer → Type 0
EndsBest f (phases.Optimal st s) = IsDualFeasible f st.basis × (¬ HasInfeasible f st.basis (get s.values))
EndsBest f (phases.Infeasible y) = Unit {0}
EndsBest f (phases.DualInfeasible st s) = Unit {0}
EndsBest f (phases.Limit st) = Unit {0}
EndsBest f (phases.Overflow refused) = Unit {0}

-- the program's answer is one of the method's on the form
pub record IsReadable (f : Form) (answer : Answer) : Type 0 where
  pub given : phases.Answer
  pub is : IsAnswerOf f answer given
  pub best : EndsBest f given

-- a run of the form has this answer, and these are all of its events
pub record IsTold (f : Form) (o : Options) (answer : Answer) (events : List Event) : Type 0 where
  pub given : phases.Answer
  pub run : IsRunBehind f o [] events given
  pub is : IsAnswerOf f answer given
