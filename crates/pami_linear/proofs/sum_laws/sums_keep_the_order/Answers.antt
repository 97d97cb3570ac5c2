use Rattle.pami_linear.proofs.Sums.{sum_le, sum_nonneg, term_le_sum, sum_nonneg_zero, sum_above}
use Rattle.pami_linear.proofs.sum_laws.sums_keep_the_order.Goals as goal

pub returns : goal.returns
returns c = record {
  at_most = sum_le;
  at_least_zero = sum_nonneg;
  each_term = term_le_sum;
  zero_by_zeros = sum_nonneg_zero;
  above_zero = sum_above;
}
