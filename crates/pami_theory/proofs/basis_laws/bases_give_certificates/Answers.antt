use Rattle.pami_theory.proofs.Certificates.{certificate_of_basis}
use Rattle.pami_theory.proofs.basis_laws.bases_give_certificates.Goals as goal

pub returns : goal.returns
returns c = record { certificate = certificate_of_basis }
