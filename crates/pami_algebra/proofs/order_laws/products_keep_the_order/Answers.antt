use Rattle.pami_algebra.proofs.Products.{mul_le_f, mul_le_left_f, mul_lt_f, mul_lt_left_f, cancel_mul_le_f, cancel_mul_lt_f}
use Rattle.pami_algebra.proofs.order_laws.products_keep_the_order.Goals as goal

pub returns : goal.returns
returns c = record {
  at_most = mul_le_f;
  at_most_from_the_left = mul_le_left_f;
  below = mul_lt_f;
  below_from_the_left = mul_lt_left_f;
  cancelled_at_most = cancel_mul_le_f;
  cancelled_below = cancel_mul_lt_f;
}
