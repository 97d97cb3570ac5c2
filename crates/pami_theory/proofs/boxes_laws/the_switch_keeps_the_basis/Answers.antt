use Rattle.pami_theory.proofs.Switched.{switch_is_basis, switch_regular, switch_reduced}
use Rattle.pami_theory.proofs.boxes_laws.the_switch_keeps_the_basis.Goals as goal

pub returns : goal.returns
returns c = record { basis = switch_is_basis; regular = switch_regular; reduced_costs = switch_reduced }
