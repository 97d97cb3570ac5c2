use Rattle.pami_theory.proofs.Violations.{violation_past, violation_positive, past_violation, violation_none}
use Rattle.pami_theory.proofs.point_laws.violations_are_distances.Goals as goal

pub returns : goal.returns
returns c = record { past = violation_past; above_zero = violation_positive; found = past_violation; none = violation_none }
