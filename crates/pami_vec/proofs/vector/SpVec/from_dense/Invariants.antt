use Rattle.std.proofs.Common.{◌≡◌, ◌++◌, drop}
use Rattle.pami_vec.proofs.AllEntries.{all_entries}
use Rattle.pami_vec.proofs.vector.SpVec.from_dense.Given as goal

abbrev pub invariant-loop-k : goal.invariant-loop-k
invariant-loop-k l = all_entries 0 l.members ≡ l.entries.items ++ all_entries l.k (drop l.k l.members)
