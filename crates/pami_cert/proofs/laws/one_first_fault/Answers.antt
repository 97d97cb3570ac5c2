use Rattle.pami_cert.proofs.Whole.{one_first_fault}
use Rattle.pami_cert.proofs.laws.one_first_fault.Goals as goal

pub returns : goal.returns
returns c = one_first_fault
