use Rattle.pami_examples.proofs.StoppingRun.{stopping_run, stopping_written, stopping_limited_run, stopping_limited_written}
use Rattle.pami_examples.proofs.stopping.stopping_is_solved.Goals as goal

pub returns : goal.returns
returns c = record { run = stopping_run; written = stopping_written; limited_run = stopping_limited_run; limited_written = stopping_limited_written }
