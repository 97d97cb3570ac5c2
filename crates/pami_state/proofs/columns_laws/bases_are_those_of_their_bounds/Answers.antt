use Rattle.pami_state.proofs.Formed.{basis_by_bounds}
use Rattle.pami_state.proofs.columns_laws.bases_are_those_of_their_bounds.Goals as goal

pub returns : goal.returns
returns c = record { basis = basis_by_bounds }
