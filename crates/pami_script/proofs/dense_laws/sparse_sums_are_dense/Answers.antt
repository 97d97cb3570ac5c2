use Rattle.pami_script.proofs.Skipped.{add_dot_sparse, add_dot_sparse_right, sub_dot_sparse, sub_dot_sparse_right}
use Rattle.pami_script.proofs.dense_laws.sparse_sums_are_dense.Goals as goal

pub returns : goal.returns
returns c = record {
  added_left = add_dot_sparse;
  added_right = add_dot_sparse_right;
  subtracted_left = sub_dot_sparse;
  subtracted_right = sub_dot_sparse_right;
}
