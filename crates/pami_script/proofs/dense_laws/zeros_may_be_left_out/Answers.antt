use Rattle.pami_script.proofs.Skipped.{sparse_is_dense}
use Rattle.pami_script.proofs.dense_laws.zeros_may_be_left_out.Goals as goal

pub returns : goal.returns
returns c = record {
  number = sparse_is_dense;
  vector = sparse_is_dense;
}
