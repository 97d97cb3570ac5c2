use Rattle.pami_theory.proofs.Violations.{width_iff, fixed_iff}
use Rattle.pami_theory.proofs.point_laws.bounds_are_measured.Goals as goal

pub returns : goal.returns
returns c = record { width = width_iff; fixed = fixed_iff }
