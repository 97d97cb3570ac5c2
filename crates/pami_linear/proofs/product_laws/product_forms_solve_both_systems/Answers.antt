use Rattle.pami_linear.proofs.Products.{forward_by, backward_by}
use Rattle.pami_linear.proofs.product_laws.product_forms_solve_both_systems.Goals as goal

pub returns : goal.returns
returns c = record {
  forward = forward_by;
  backward = backward_by;
}
