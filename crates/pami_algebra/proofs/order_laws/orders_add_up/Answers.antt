use Rattle.pami_algebra.proofs.Products.{add_le_both_f, add_lt_le_f, add_le_lt_f}
use Rattle.pami_algebra.proofs.order_laws.orders_add_up.Goals as goal

pub returns : goal.returns
returns c = record {
  at_most = add_le_both_f;
  below_first = add_lt_le_f;
  below_last = add_le_lt_f;
}
