use Rattle.pami_method.proofs.Tasks.{first_behind}
use Rattle.pami_method.proofs.task_laws.scripts_that_fit_are_passed.Goals as goal

pub returns : goal.returns
returns c = record { behind = first_behind }
