use Rattle.pami_theory.proofs.Certificates.{certificate_at_start}
use Rattle.pami_theory.proofs.start_laws.start_gives_certificates.Goals as goal

pub returns : goal.returns
returns c = record { certificate = certificate_at_start }
