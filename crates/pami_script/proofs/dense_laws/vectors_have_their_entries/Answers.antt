use Rattle.pami_script.proofs.Skipped.{length_dense, get_dense}
use Rattle.pami_script.proofs.dense_laws.vectors_have_their_entries.Goals as goal

pub returns : goal.returns
returns c = record {
  length = length_dense;
  member = get_dense;
}
