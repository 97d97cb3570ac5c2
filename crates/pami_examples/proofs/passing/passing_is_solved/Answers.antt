use Rattle.pami_examples.proofs.PassingRun.{passing_run, passing_written}
use Rattle.pami_examples.proofs.passing.passing_is_solved.Goals as goal

pub returns : goal.returns
returns c = record { run = passing_run; written = passing_written }
