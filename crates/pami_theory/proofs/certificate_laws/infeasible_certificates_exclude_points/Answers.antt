use Rattle.pami_theory.proofs.Decided.{infeasible_same}
use Rattle.pami_theory.proofs.Farkas.{no_feasible_point}
use Rattle.pami_theory.proofs.certificate_laws.infeasible_certificates_exclude_points.Goals as goal

pub returns : goal.returns
returns c = record { excluded = no_feasible_point; by_rows = infeasible_same }
