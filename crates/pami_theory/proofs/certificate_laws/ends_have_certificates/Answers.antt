use Rattle.pami_theory.proofs.Optimal.{optimal_solved}
use Rattle.pami_theory.proofs.NoEntering.{infeasible_without_step}
use Rattle.pami_theory.proofs.certificate_laws.ends_have_certificates.Goals as goal

pub returns : goal.returns
returns c = record { optimal = optimal_solved; infeasible = infeasible_without_step }
