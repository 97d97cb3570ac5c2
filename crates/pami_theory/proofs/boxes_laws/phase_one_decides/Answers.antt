use Rattle.pami_theory.proofs.Boxed.{can_iff, boxes_ray}
use Rattle.pami_theory.proofs.Decided.{can_or_not}
use Rattle.pami_theory.proofs.boxes_laws.phase_one_decides.Goals as goal

pub returns : goal.returns
returns c = record { by_switch = can_iff; decided = can_or_not; ray = boxes_ray }
