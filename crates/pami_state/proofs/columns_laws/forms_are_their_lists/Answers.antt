use Rattle.pami_state.proofs.Formed.{coefficient_is, cost_of_is}
use Rattle.pami_state.proofs.columns_laws.forms_are_their_lists.Goals as goal

pub returns-clause-coefficients : goal.returns-clause-coefficients
returns-clause-coefficients c = coefficient_is

pub returns-clause-costs : goal.returns-clause-costs
returns-clause-costs c = cost_of_is
