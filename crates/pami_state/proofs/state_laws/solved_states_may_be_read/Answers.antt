use Rattle.pami_state.specs.State.{basis_of}
use Rattle.pami_state.proofs.Formed.{basis_by_bounds}
use Rattle.pami_state.proofs.Known.{values_by_head, stands_by_bounds, reduced_by_bounds}
use Rattle.pami_state.proofs.state_laws.solved_states_may_be_read.Goals as goal

pub returns-clause-values : goal.returns-clause-values
returns-clause-values c = values_by_head

pub returns-clause-stands : goal.returns-clause-stands
returns-clause-stands c = stands_by_bounds

pub returns-clause-reduced : goal.returns-clause-reduced
returns-clause-reduced c = reduced_by_bounds

pub returns-clause-basis : goal.returns-clause-basis
returns-clause-basis c = λ f bounds st h s. basis_by_bounds f (basis_of st) bounds h s
