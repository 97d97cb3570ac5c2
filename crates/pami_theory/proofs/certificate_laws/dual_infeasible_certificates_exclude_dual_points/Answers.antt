use Rattle.pami_theory.proofs.Farkas.{no_dual_point, basis_dual_point, no_dual_feasible_basis}
use Rattle.pami_theory.proofs.certificate_laws.dual_infeasible_certificates_exclude_dual_points.Goals as goal

pub returns : goal.returns
returns c = record { excluded = no_dual_point; of_a_basis = basis_dual_point; no_basis = no_dual_feasible_basis }
