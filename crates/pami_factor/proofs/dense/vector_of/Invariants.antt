use Rattle.std.proofs.Common.{◌≡◌, ◌++◌, drop}
use Rattle.pami_factor.proofs.Nonzeros.{nonzeros}
use Rattle.pami_factor.proofs.dense.vector_of.Given as goal

abbrev pub invariant-loop-k : goal.invariant-loop-k
invariant-loop-k l = nonzeros 0 l.members ≡ l.entries.items ++ nonzeros l.k (drop l.k l.members)
