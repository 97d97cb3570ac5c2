use Rattle.std.proofs.Common.{◌≡◌, [], replicate}
use Rattle.pami_vec.proofs.gather.empty_rows.Given as goal

abbrev pub invariant-loop-row : goal.invariant-loop-row
invariant-loop-row l = l.lists.items ≡ replicate l.row []
