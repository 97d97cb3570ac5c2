use Rattle.pami_theory.proofs.Standard.{standard_stand, standard_values, standard_values_only, standard_uncrossed, standard_dual_feasible, standard_infeasible, standard_optimal, objective_of_zeros}
use Rattle.pami_theory.proofs.start_laws.standard_forms_start_at_zero.Goals as goal

pub returns : goal.returns
returns c = record {
  stands = standard_stand;
  values = standard_values;
  only_values = standard_values_only;
  uncrossed = standard_uncrossed;
  dual_feasible = standard_dual_feasible;
  infeasible = standard_infeasible;
  optimal = standard_optimal;
  objective = objective_of_zeros;
}
