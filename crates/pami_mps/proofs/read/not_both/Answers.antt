use Rattle.pami_mps.proofs.Whole.{not_both}
use Rattle.pami_mps.proofs.read.not_both.Goals as goal

pub returns : goal.returns
returns c = not_both
