use Rattle.pami_examples.proofs.BlendingRun.{blending_run, blending_written}
use Rattle.pami_examples.proofs.blending.blending_is_solved.Goals as goal

pub returns : goal.returns
returns c = record { run = blending_run; written = blending_written }
