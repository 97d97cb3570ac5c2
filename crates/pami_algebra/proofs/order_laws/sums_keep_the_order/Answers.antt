use Rattle.pami_algebra.proofs.Order.{add_le_f}
use Rattle.pami_algebra.proofs.Products.{add_le_left_f, add_lt_f, add_lt_left_f, cancel_add_le_f, cancel_add_lt_f}
use Rattle.pami_algebra.proofs.order_laws.sums_keep_the_order.Goals as goal

pub returns : goal.returns
returns c = record {
  at_most = add_le_f;
  at_most_from_the_left = add_le_left_f;
  below = add_lt_f;
  below_from_the_left = add_lt_left_f;
  cancelled_at_most = cancel_add_le_f;
  cancelled_below = cancel_add_lt_f;
}
