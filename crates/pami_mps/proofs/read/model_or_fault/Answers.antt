use Rattle.pami_mps.proofs.Whole.{model_or_fault}
use Rattle.pami_mps.proofs.read.model_or_fault.Goals as goal

pub returns : goal.returns
returns c = model_or_fault
