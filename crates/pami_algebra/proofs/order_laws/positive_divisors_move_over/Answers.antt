use Rattle.pami_algebra.proofs.Products.{div_le_f, le_div_f, div_lt_f, lt_div_f}
use Rattle.pami_algebra.proofs.order_laws.positive_divisors_move_over.Goals as goal

pub returns : goal.returns
returns c = record {
  quotient_at_most = div_le_f;
  quotient_at_least = le_div_f;
  quotient_below = div_lt_f;
  quotient_above = lt_div_f;
}
