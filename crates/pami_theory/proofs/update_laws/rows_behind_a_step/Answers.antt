use Rattle.pami_theory.proofs.NextRows.{row_behind, pivot_row_behind, column_behind}
use Rattle.pami_theory.proofs.update_laws.rows_behind_a_step.Goals as goal

pub returns : goal.returns
returns c = record { other = row_behind; pivot = pivot_row_behind; column = column_behind }
