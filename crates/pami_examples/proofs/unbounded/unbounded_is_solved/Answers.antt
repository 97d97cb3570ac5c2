use Rattle.pami_examples.proofs.UnboundedRun.{unbounded_run, unbounded_written}
use Rattle.pami_examples.proofs.unbounded.unbounded_is_solved.Goals as goal

pub returns : goal.returns
returns c = record { run = unbounded_run; written = unbounded_written }
