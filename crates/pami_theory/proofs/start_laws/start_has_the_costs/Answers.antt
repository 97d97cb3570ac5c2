use Rattle.pami_theory.proofs.Starts.{start_costs, start_prices_zero, start_costs_only}
use Rattle.pami_theory.proofs.start_laws.start_has_the_costs.Goals as goal

pub returns : goal.returns
returns c = record {
  reduced_costs = start_costs;
  only_multipliers = start_prices_zero;
  only_reduced_costs = start_costs_only;
}
