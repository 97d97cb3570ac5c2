use Rattle.std.proofs.Common.{◌≡◌, ◌++◌, drop}
use Rattle.pami_lu.proofs.Listed.{entries_but}
use Rattle.pami_lu.proofs.vectors.without.Given as goal

abbrev pub invariant-loop-entry : goal.invariant-loop-entry
invariant-loop-entry l = entries_but l.place l.entry-items ≡ l.others.items ++ entries_but l.place (drop l.entry-index l.entry-items)
