use Rattle.pami_linear.proofs.Solutions.{eliminated_regular}
use Rattle.pami_linear.proofs.Permutations.{rows_permute, places_permute}
use Rattle.pami_linear.proofs.elimination_laws.eliminated_matrices_are_regular.Goals as goal

pub returns : goal.returns
returns c = record {
  regular = eliminated_regular;
  rows = rows_permute;
  places = places_permute;
}
