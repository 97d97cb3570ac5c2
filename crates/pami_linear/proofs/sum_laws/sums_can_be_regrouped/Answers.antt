use Rattle.pami_linear.proofs.Sums.{sum_swap, sum_append}
use Rattle.pami_linear.proofs.sum_laws.sums_can_be_regrouped.Goals as goal

pub returns : goal.returns
returns c = record {
  swapped = sum_swap;
  in_two_parts = sum_append;
}
