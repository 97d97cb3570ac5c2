use Rattle.pami_model.proofs.FirstFaults.{one_fault}
use Rattle.pami_model.proofs.file.one_first_fault.Goals as goal

pub returns : goal.returns
returns c = one_fault
