use Rattle.std.proofs.Common.{◌≡◌, ◌≤◌, cond, not, false}
use Rattle.pami_algebra.specs.Operations.{is_zero}
use Rattle.pami_linear.specs.Active.{count}
use Rattle.pami_factoring.specs.Factor.{flag, entry}
use Rattle.pami_dense.proofs.search.count_in_row.Given as goal

abbrev pub invariant-loop-place : goal.invariant-loop-place
invariant-loop-place l =
    (l.n ≡ count l.place (λ g. cond (flag l.rest.places.items g) (not (is_zero (entry l.rest.rows.items l.row g))) false)) × (l.n ≤ l.place)
