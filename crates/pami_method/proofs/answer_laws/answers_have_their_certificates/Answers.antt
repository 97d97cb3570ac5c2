use Rattle.pami_method.specs.Phases.{Optimal, Infeasible, DualInfeasible}
use Rattle.pami_method.proofs.Answers.{run_holds}
use Rattle.pami_method.proofs.answer_laws.answers_have_their_certificates.Goals as goal

pub returns : goal.returns
returns c = record {
  optimal = λ f o r st s u h. run_holds f o r (Optimal st s) h u;
  infeasible = λ f o r y h. run_holds f o r (Infeasible y) h;
  dual_infeasible = λ f o r st s whole h. run_holds f o r (DualInfeasible st s) h whole;
}
