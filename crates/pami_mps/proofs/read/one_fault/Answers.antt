use Rattle.pami_mps.proofs.Whole.{one_fault}
use Rattle.pami_mps.proofs.read.one_fault.Goals as goal

pub returns : goal.returns
returns c = one_fault
