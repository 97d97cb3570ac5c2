use Rattle.pami_linear.proofs.Pivoted.{inverse_after_pivot}
use Rattle.pami_linear.proofs.Regular.{regular_after_pivot, pivot_not_zero}
use Rattle.pami_linear.proofs.pivot_laws.a_pivot_keeps_a_basis_regular.Goals as goal

pub returns : goal.returns
returns c = record {
  regular = regular_after_pivot;
  only = pivot_not_zero;
  inverse = inverse_after_pivot;
}
