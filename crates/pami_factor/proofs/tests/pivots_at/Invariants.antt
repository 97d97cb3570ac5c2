use Rattle.pami_vec.specs.Pivots.{ArePivots}
use Rattle.pami_factor.proofs.tests.pivots_at.Given as goal

abbrev pub invariant-loop-place : goal.invariant-loop-place
invariant-loop-place l = ArePivots 3 l.out.items
