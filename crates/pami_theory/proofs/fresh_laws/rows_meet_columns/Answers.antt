use Rattle.pami_theory.proofs.Solved.{row_entry_is, basic_entry, basic_column}
use Rattle.pami_theory.proofs.fresh_laws.rows_meet_columns.Goals as goal

pub returns : goal.returns
returns c = record { entry = row_entry_is; basic_entry = basic_entry; basic_column = basic_column }
