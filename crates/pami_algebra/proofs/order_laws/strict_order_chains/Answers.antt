use Rattle.pami_algebra.proofs.Strict.{lt_trans_f, lt_le_trans_f, le_lt_trans_f}
use Rattle.pami_algebra.proofs.order_laws.strict_order_chains.Goals as goal

pub returns : goal.returns
returns c = record {
  strict = lt_trans_f;
  strict_first = lt_le_trans_f;
  strict_last = le_lt_trans_f;
}
