-- The program's answer has the status of the method's.
use Rattle.std.proofs.Common.{List, Option, refl}
use Rattle.pami_algebra.specs.Fraction.{Fraction}
use Rattle.pami_theory.specs.Form.{Form}
use Rattle.pami_method.specs.declared.words.Place.{Place}
use Rattle.pami_method.specs.Phases as phases
use Rattle.pami_form.specs.declared.form.Form.{Form as ProgramForm}
use Rattle.pami_state.specs.declared.state.State.{State}
use Rattle.pami_factor.specs.Value.{Product}
use Rattle.pami_phase.specs.declared.answer.Answer.TheVariants as answers
use Rattle.pami_phase.specs.Runs.{IsAnswerOf}
use Rattle.pami_cli.specs.declared.status.Status.TheVariants as statuses
use Rattle.pami_cli.specs.Answer.{HasStatus}

pub optimal_status : (f : Form) (state : State) (factor : Option Product) (a : phases.Answer) → IsAnswerOf f (answers.Optimal state factor) a → HasStatus a statuses.Good
optimal_status f state factor (phases.Optimal st s) l = refl
optimal_status f state factor a l = absurd l

pub infeasible_status : (f : Form) (y : List Fraction) (a : phases.Answer) → IsAnswerOf f (answers.Infeasible y) a → HasStatus a statuses.Infeasible
infeasible_status f y (phases.Infeasible z) l = refl
infeasible_status f y a l = absurd l

pub dual_infeasible_status : (f : Form) (state : State) (boxes : ProgramForm) (a : phases.Answer) → IsAnswerOf f (answers.DualInfeasible state boxes) a → HasStatus a statuses.DualInfeasible
dual_infeasible_status f state boxes (phases.DualInfeasible st s) l = refl
dual_infeasible_status f state boxes a l = absurd l

pub limit_status : (f : Form) (state : State) (a : phases.Answer) → IsAnswerOf f (answers.Limit state) a → HasStatus a statuses.Limit
limit_status f state (phases.Limit st) l = refl
limit_status f state a l = absurd l

pub overflow_status : (f : Form) (place : Place) (a : phases.Answer) → IsAnswerOf f (answers.Overflow place) a → HasStatus a statuses.Overflow
overflow_status f place (phases.Overflow refused) l = refl
overflow_status f place a l = absurd l
