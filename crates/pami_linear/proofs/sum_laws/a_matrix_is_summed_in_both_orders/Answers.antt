use Rattle.pami_linear.proofs.Sums.{both_orders}
use Rattle.pami_linear.proofs.sum_laws.a_matrix_is_summed_in_both_orders.Goals as goal

pub returns : goal.returns
returns c = both_orders
