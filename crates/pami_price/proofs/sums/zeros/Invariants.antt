use Rattle.std.proofs.Common.{◌≡◌, replicate, pos}
use Rattle.pami_algebra.specs.Operations.{of_int}
use Rattle.pami_price.proofs.sums.zeros.Given as goal

abbrev pub invariant-loop-k : goal.invariant-loop-k
invariant-loop-k l = l.out.items ≡ replicate l.k (of_int (pos 0))
