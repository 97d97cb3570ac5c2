use Rattle.pami_linear.proofs.Sums.{sum_same, sum_zero, sum_add, sum_neg, sum_scale}
use Rattle.pami_linear.proofs.sum_laws.sums_are_linear.Goals as goal

pub returns : goal.returns
returns c = record {
  same = sum_same;
  zeros = sum_zero;
  sum = sum_add;
  negation = sum_neg;
  multiple = sum_scale;
}
