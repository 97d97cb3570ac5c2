use Rattle.std.proofs.Common.{◌≡◌, map, take}
use Rattle.pami_chuzr.specs.Choice.{row_by, chosen_row}
use Rattle.pami_chuzr.proofs.ranking.told.Given as goal

abbrev pub invariant-loop-row : goal.invariant-loop-row
invariant-loop-row l = l.out.items ≡ map chosen_row (map row_by (take l.row-index l.rows))
