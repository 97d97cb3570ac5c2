use Rattle.pami_theory.proofs.Starts.{row_cost, basic_cost}
use Rattle.pami_theory.proofs.basis_laws.reduced_costs_of_a_basis.Goals as goal

pub returns : goal.returns
returns c = record {
  of_rows = row_cost;
  of_basic_variables = basic_cost;
}
