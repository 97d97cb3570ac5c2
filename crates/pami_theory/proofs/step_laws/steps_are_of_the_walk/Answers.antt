use Rattle.pami_theory.proofs.Steps.{step_enters, step_is}
use Rattle.pami_theory.proofs.step_laws.steps_are_of_the_walk.Goals as goal

pub returns : goal.returns
returns c = record { enters = step_enters; parts = step_is }
