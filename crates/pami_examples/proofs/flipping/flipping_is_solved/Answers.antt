use Rattle.pami_examples.proofs.FlippingRun.{flipping_run, flipping_written}
use Rattle.pami_examples.proofs.flipping.flipping_is_solved.Goals as goal

pub returns : goal.returns
returns c = record { run = flipping_run; written = flipping_written }
