use Rattle.pami_algebra.proofs.Products.{nonneg_num, above_num, below_num}
use Rattle.pami_algebra.proofs.order_laws.signs_by_the_numerator.Goals as goal

pub returns : goal.returns
returns c = record {
  at_least_zero = nonneg_num;
  above_zero = above_num;
  below_zero = below_num;
}
