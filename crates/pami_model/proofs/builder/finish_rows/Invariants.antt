use Rattle.std.proofs.Common.{◌≡◌, ◌++◌, None}
use Rattle.pami_model.specs.Draft.{crossed_row}
use Rattle.pami_model.specs.Build.{rows_of}
use Rattle.pami_model.proofs.builder.finish_rows.Given as goal

abbrev pub invariant-loop-name : goal.invariant-loop-name
invariant-loop-name l = (l.rows.items ++ rows_of l.name-iterator ≡ rows_of l.fn.table.entries) × (crossed_row l.rows.items ≡ None)
