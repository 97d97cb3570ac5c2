use Rattle.pami_algebra.proofs.Order.{le_out_ratio, le_in_ratio}
use Rattle.pami_algebra.proofs.Strict.{lt_out_ratio, lt_in_ratio}
use Rattle.pami_algebra.proofs.order_laws.order_by_any_ratios.Goals as goal

pub returns : goal.returns
returns c = record {
  at_most = λ p q n m d e r s. (le_out_ratio p q n m d e r s, le_in_ratio p q n m d e r s);
  below = λ p q n m d e r s. (lt_out_ratio p q n m d e r s, lt_in_ratio p q n m d e r s);
}
