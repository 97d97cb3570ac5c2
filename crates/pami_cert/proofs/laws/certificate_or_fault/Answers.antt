use Rattle.pami_cert.proofs.Whole.{certificate_or_fault}
use Rattle.pami_cert.proofs.laws.certificate_or_fault.Goals as goal

pub returns : goal.returns
returns c = certificate_or_fault
