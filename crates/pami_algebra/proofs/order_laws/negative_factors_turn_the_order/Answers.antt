use Rattle.pami_algebra.proofs.Products.{neg_le_f, neg_lt_f, mul_le_neg_f, mul_lt_neg_f}
use Rattle.pami_algebra.proofs.order_laws.negative_factors_turn_the_order.Goals as goal

pub returns : goal.returns
returns c = record {
  negation_at_most = neg_le_f;
  negation_below = neg_lt_f;
  factor_at_most = mul_le_neg_f;
  factor_below = mul_lt_neg_f;
}
