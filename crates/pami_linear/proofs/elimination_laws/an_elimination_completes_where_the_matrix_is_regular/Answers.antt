use Rattle.pami_linear.proofs.Solutions.{completes_iff, singular_iff, chain_of}
use Rattle.pami_linear.proofs.Left.{leaves_of}
use Rattle.pami_linear.proofs.elimination_laws.an_elimination_completes_where_the_matrix_is_regular.Goals as goal

pub returns : goal.returns
returns c = record {
  completes = completes_iff;
  singular = singular_iff;
  place_left = leaves_of;
  steps = chain_of;
}
