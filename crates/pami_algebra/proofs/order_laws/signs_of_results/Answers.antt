use Rattle.pami_algebra.proofs.Bounds.{add_nonneg_f}
use Rattle.pami_algebra.proofs.Order.{mul_nonneg_f}
use Rattle.pami_algebra.proofs.Products.{mul_above_f, square_nonneg_f, inv_above_f, inv_below_f, zero_lt_one_f}
use Rattle.pami_algebra.proofs.order_laws.signs_of_results.Goals as goal

pub returns : goal.returns
returns c = record {
  sum_at_least_zero = add_nonneg_f;
  product_at_least_zero = mul_nonneg_f;
  product_above_zero = mul_above_f;
  square_at_least_zero = square_nonneg_f;
  inverse_above_zero = inv_above_f;
  inverse_below_zero = inv_below_f;
  one_above_zero = zero_lt_one_f;
}
