use Rattle.pami_lu.proofs.Loops.{Going}
use Rattle.pami_lu.proofs.elimination.eliminate_rows.Given as goal

abbrev pub invariant-loop-k : goal.invariant-loop-k
invariant-loop-k l = Going l.fn.matrix.items l.m l.k l.places.items l.rows.items l.members.items l.steps.items
