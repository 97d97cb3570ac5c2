use Rattle.pami_examples.proofs.KeepingRun.{keeping_read, keeping_formed, keeping_run, keeping_anew, keeping_written}
use Rattle.pami_examples.proofs.keeping.keeping_is_solved.Goals as goal

pub returns : goal.returns
returns c = record { read = keeping_read; formed = keeping_formed; run = keeping_run; anew = keeping_anew; written = keeping_written }
