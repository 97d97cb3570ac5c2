use Rattle.std.proofs.Common.{length}
use Rattle.pami_linear.specs.Pivoting.{least}
use Rattle.pami_dense.specs.Search.{Cached, allowed, cost_at}
use Rattle.pami_dense.proofs.search.find_pivot.Given as goal

abbrev pub invariant-loop-place : goal.invariant-loop-place
invariant-loop-place l = Cached (cost_at l.rest) l.best (least (allowed l.rest) (cost_at l.rest) (length l.rest.rows.items) l.place)
