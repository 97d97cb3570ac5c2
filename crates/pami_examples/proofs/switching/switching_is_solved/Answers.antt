use Rattle.pami_examples.proofs.SwitchingRun.{switching_run, switching_written}
use Rattle.pami_examples.proofs.switching.switching_is_solved.Goals as goal

pub returns : goal.returns
returns c = record { run = switching_run; written = switching_written }
