use Rattle.std.proofs.Common.{◌≡◌, replicate, true}
use Rattle.pami_dense.proofs.rest.all_active.Given as goal

abbrev pub invariant-loop-k : goal.invariant-loop-k
invariant-loop-k l = l.out.items ≡ replicate l.k true
