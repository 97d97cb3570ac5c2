use Rattle.pami_algebra.proofs.Bounds.{gap_of}
use Rattle.pami_algebra.proofs.Products.{le_from_gap, gap_above, lt_from_gap}
use Rattle.pami_algebra.proofs.order_laws.order_is_the_sign_of_a_difference.Goals as goal

pub returns : goal.returns
returns c = record {
  at_most = λ p q. (gap_of p q, le_from_gap p q);
  below = λ p q. (gap_above p q, lt_from_gap p q);
}
