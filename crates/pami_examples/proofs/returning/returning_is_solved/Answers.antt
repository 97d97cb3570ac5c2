use Rattle.pami_examples.proofs.ReturningRun.{returning_read, returning_formed, returning_run, returning_written}
use Rattle.pami_examples.proofs.returning.returning_is_solved.Goals as goal

pub returns : goal.returns
returns c = record { read = returning_read; formed = returning_formed; run = returning_run; written = returning_written }
