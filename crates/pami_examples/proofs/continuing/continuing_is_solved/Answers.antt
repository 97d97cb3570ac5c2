use Rattle.pami_examples.proofs.ContinuingRun.{continuing_read, continuing_formed, continuing_run, continuing_written}
use Rattle.pami_examples.proofs.continuing.continuing_is_solved.Goals as goal

pub returns : goal.returns
returns c = record { read = continuing_read; formed = continuing_formed; run = continuing_run; written = continuing_written }
