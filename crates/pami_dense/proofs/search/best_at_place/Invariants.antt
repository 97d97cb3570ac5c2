use Rattle.std.proofs.Common.{Option}
use Rattle.pami_linear.specs.Pivoting.{Pivot, in_column}
use Rattle.pami_dense.specs.Search.{Cached, allowed, cost_at}
use Rattle.pami_dense.proofs.search.best_at_place.Given as goal

abbrev pub invariant-loop-row : goal.invariant-loop-row
invariant-loop-row l =
    (o : Option Pivot) → Cached (cost_at l.rest) l.fn.best o → Cached (cost_at l.rest) l.best (in_column (allowed l.rest) (cost_at l.rest) l.row l.place o)
