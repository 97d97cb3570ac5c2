use Rattle.pami_linear.proofs.Regular.{solution, one_solution, combination, one_combination}
use Rattle.pami_linear.proofs.system_laws.regular_systems_have_one_solution.Goals as goal

pub returns : goal.returns
returns c = record {
  solution = solution;
  one_solution = one_solution;
  combination = combination;
  one_combination = one_combination;
}
