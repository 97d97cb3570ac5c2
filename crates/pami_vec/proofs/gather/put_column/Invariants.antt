use Rattle.std.proofs.Common.{◌≡◌, drop, length}
use Rattle.pami_vec.proofs.Gathered.{spread}
use Rattle.pami_vec.proofs.gather.put_column.Given as goal

abbrev pub invariant-loop-entry : goal.invariant-loop-entry
invariant-loop-entry l =
    (spread l.place l.entry-items l.fn.lists.items ≡ spread l.place (drop l.entry-index l.entry-items) l.lists.items)
    × (length l.lists.items ≡ length l.fn.lists.items)
