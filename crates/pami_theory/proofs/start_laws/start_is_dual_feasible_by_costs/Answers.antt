use Rattle.pami_theory.proofs.Signs.{dual_feasible_start, both_bounds_signed}
use Rattle.pami_theory.proofs.start_laws.start_is_dual_feasible_by_costs.Goals as goal

pub returns : goal.returns
returns c = record {
  by_costs = dual_feasible_start;
  both_bounds = both_bounds_signed;
}
