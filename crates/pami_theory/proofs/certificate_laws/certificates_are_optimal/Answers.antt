use Rattle.pami_theory.proofs.Duality.{cost_by_certificate, weak_duality, weak_duality_objective, one_optimum}
use Rattle.pami_theory.proofs.certificate_laws.certificates_are_optimal.Goals as goal

pub returns : goal.returns
returns c = record {
  same_cost = cost_by_certificate;
  no_less = weak_duality;
  no_less_objective = weak_duality_objective;
  one_optimum = one_optimum;
}
