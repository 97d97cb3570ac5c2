use Rattle.std.proofs.Common.{◌≡◌, ◌≤◌}
use Rattle.pami_linear.specs.Pivoting.{place_count}
use Rattle.pami_factoring.specs.Factor.{flag, entry}
use Rattle.pami_dense.proofs.search.count_at_place.Given as goal

abbrev pub invariant-loop-row : goal.invariant-loop-row
invariant-loop-row l = (l.n ≡ place_count l.row (flag l.rest.active.items) (entry l.rest.rows.items) l.place) × (l.n ≤ l.row)
