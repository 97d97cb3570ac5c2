use Rattle.pami_cert.proofs.Whole.{one_certificate}
use Rattle.pami_cert.proofs.laws.one_certificate.Goals as goal

pub returns : goal.returns
returns c = one_certificate
