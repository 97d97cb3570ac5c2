use Rattle.pami_examples.proofs.OverflowingRun.{overflowing_read, overflowing_formed, overflowing_run, overflowing_written}
use Rattle.pami_examples.proofs.overflowing.overflowing_is_solved.Goals as goal

pub returns : goal.returns
returns c = record { read = overflowing_read; formed = overflowing_formed; run = overflowing_run; written = overflowing_written }
