use Rattle.pami_linear.proofs.Sums.{unit_same, unit_other, sum_unit}
use Rattle.pami_linear.proofs.Units.{unit_swap, dot_neg_unit}
use Rattle.pami_linear.proofs.sum_laws.unit_vectors_pick_a_term.Goals as goal

pub returns : goal.returns
returns c = record {
  here = unit_same;
  elsewhere = unit_other;
  swapped = unit_swap;
  picked = sum_unit;
  picked_negated = dot_neg_unit;
}
