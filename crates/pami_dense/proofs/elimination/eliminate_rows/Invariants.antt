use Rattle.std.proofs.Common.{◌≡◌, ◌-◌, length}
use Rattle.pami_factoring.specs.Factor.{elimination_script}
use Rattle.pami_dense.specs.Rest.{IsWhole}
use Rattle.pami_dense.proofs.Steps.{IsLeft}
use Rattle.pami_dense.proofs.elimination.eliminate_rows.Given as goal

abbrev pub invariant-loop-k : goal.invariant-loop-k
invariant-loop-k l =
    IsLeft (elimination_script l.fn.rows.items) l.steps.items (l.m - l.k) l.rest
    × IsWhole l.rest
    × (length l.rest.rows.items ≡ l.m)
    × (l.m ≡ length l.fn.rows.items)
