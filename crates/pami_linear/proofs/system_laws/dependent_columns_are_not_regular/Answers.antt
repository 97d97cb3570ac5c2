use Rattle.pami_linear.proofs.Systems.{not_regular_by_row}
use Rattle.pami_linear.proofs.Regular.{not_regular_by_column, not_regular_by_equal}
use Rattle.pami_linear.proofs.system_laws.dependent_columns_are_not_regular.Goals as goal

pub returns : goal.returns
returns c = record {
  by_row = not_regular_by_row;
  by_column = not_regular_by_column;
  by_equal_columns = not_regular_by_equal;
}
