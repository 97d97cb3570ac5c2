use Rattle.pami_theory.proofs.Boxed.{zero_feasible, boxes_enter, boxes_start}
use Rattle.pami_theory.proofs.boxes_laws.phase_one_goes_on.Goals as goal

pub returns : goal.returns
returns c = record { zero = zero_feasible; enters = boxes_enter; start = boxes_start }
