use Rattle.pami_theory.proofs.NextCosts.{step_keeps_feasible, step_length}
use Rattle.pami_theory.proofs.update_laws.steps_keep_dual_feasibility.Goals as goal

pub returns : goal.returns
returns c = record { feasible = step_keeps_feasible; length = step_length }
