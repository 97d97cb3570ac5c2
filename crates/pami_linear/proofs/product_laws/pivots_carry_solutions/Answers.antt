use Rattle.pami_linear.proofs.Products.{regular_by, solves_by, combines_by, gathered_combines}
use Rattle.pami_linear.proofs.product_laws.pivots_carry_solutions.Goals as goal

pub returns : goal.returns
returns c = record {
  regular = regular_by;
  forward = solves_by;
  backward = combines_by;
  one_backward = gathered_combines;
}
