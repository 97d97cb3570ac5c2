use Rattle.pami_mps.proofs.Whole.{one_model}
use Rattle.pami_mps.proofs.read.one_model.Goals as goal

pub returns : goal.returns
returns c = one_model
