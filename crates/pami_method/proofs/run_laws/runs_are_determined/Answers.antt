use Rattle.pami_method.proofs.Runs.{run_only}
use Rattle.pami_method.proofs.run_laws.runs_are_determined.Goals as goal

pub returns : goal.returns
returns c = record { only = run_only }
