use Rattle.pami_linear.proofs.Pivoted.{row_after_pivot, pivot_row_after_pivot}
use Rattle.pami_linear.proofs.pivot_laws.rows_after_a_pivot.Goals as goal

pub returns : goal.returns
returns c = record {
  another = row_after_pivot;
  its_own = pivot_row_after_pivot;
}
