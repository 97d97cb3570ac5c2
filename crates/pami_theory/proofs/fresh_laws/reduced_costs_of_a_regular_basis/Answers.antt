use Rattle.pami_theory.proofs.Solved.{has_reduced, multipliers_only, reduced_only}
use Rattle.pami_theory.proofs.fresh_laws.reduced_costs_of_a_regular_basis.Goals as goal

pub returns : goal.returns
returns c = record { has_costs = has_reduced; only_multipliers = multipliers_only; only_costs = reduced_only }
