use Rattle.pami_state.proofs.Known.{one_values, one_reduced, one_state}
use Rattle.pami_state.proofs.state_laws.bases_have_one_solved_state.Goals as goal

pub returns-clause-values : goal.returns-clause-values
returns-clause-values c = one_values

pub returns-clause-reduced : goal.returns-clause-reduced
returns-clause-reduced c = one_reduced

pub returns-clause-state : goal.returns-clause-state
returns-clause-state c = one_state
