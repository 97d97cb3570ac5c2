use Rattle.std.proofs.Common.{◌≡◌, ◌++◌, map, drop}
use Rattle.pami_script.specs.Dense.{dense}
use Rattle.pami_vec.proofs.gather.rows_of_columns.Given as goal

abbrev pub invariant-loop-row : goal.invariant-loop-row
invariant-loop-row l = map (dense l.places) l.lists.items ≡ l.rows.items ++ map (dense l.places) (drop l.row l.lists.items)
