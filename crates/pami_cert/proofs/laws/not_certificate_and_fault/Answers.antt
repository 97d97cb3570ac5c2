use Rattle.pami_cert.proofs.Whole.{not_certificate_and_fault}
use Rattle.pami_cert.proofs.laws.not_certificate_and_fault.Goals as goal

pub returns : goal.returns
returns c = not_certificate_and_fault
