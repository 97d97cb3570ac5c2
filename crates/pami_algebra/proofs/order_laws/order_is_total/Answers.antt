use Rattle.pami_algebra.proofs.Order.{le_refl_f, le_antisymm_f, le_trans_f, le_total_f}
use Rattle.pami_algebra.proofs.order_laws.order_is_total.Goals as goal

pub returns : goal.returns
returns c = record {
  reflexive = le_refl_f;
  antisymmetric = le_antisymm_f;
  transitive = le_trans_f;
  total = le_total_f;
}
