use Rattle.pami_linear.proofs.Sums.{dot_comm, dot_add, dot_scale}
use Rattle.pami_linear.proofs.Units.{dot_none}
use Rattle.pami_linear.proofs.sum_laws.scalar_products_are_bilinear.Goals as goal

pub returns : goal.returns
returns c = record {
  commutative = dot_comm;
  none = dot_none;
  sum = dot_add;
  multiple = dot_scale;
}
