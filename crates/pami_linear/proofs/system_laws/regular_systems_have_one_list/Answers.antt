use Rattle.pami_linear.proofs.Lists.{solution_list, one_solution_list, combination_list, one_combination_list}
use Rattle.pami_linear.proofs.system_laws.regular_systems_have_one_list.Goals as goal

pub returns : goal.returns
returns c = record {
  solution = solution_list;
  one_solution = one_solution_list;
  combination = combination_list;
  one_combination = one_combination_list;
}
