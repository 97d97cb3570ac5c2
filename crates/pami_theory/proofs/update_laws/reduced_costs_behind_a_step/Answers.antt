use Rattle.pami_theory.proofs.NextCosts.{step_reduced, step_leaving, step_entering}
use Rattle.pami_theory.proofs.update_laws.reduced_costs_behind_a_step.Goals as goal

pub returns : goal.returns
returns c = record { each = step_reduced; leaving = step_leaving; entering = step_entering }
