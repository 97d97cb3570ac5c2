use Rattle.pami_theory.proofs.Starts.{start_is_basis}
use Rattle.pami_theory.proofs.start_laws.start_is_a_basis.Goals as goal

pub returns : goal.returns
returns c = record { basis = start_is_basis }
