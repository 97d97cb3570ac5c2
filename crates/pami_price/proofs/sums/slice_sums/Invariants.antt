use Rattle.std.proofs.Common.{◌≡◌, ◌≤◌, ◌+◌, length, drop}
use Rattle.pami_vec.specs.Scripts.{dot_script}
use Rattle.pami_price.specs.Slices.{column_at}
use Rattle.pami_price.specs.Sums.{AreSums, limit_of}
use Rattle.pami_price.proofs.Summed.{rest_of}
use Rattle.pami_price.proofs.sums.slice_sums.Given as goal

abbrev pub invariant-loop-entry : goal.invariant-loop-entry
invariant-loop-entry l =
    (l.first + length l.sums.items ≡ l.last)
    × (limit_of l.stop l.last ≤ l.last)
    × AreSums l.stands l.first l.last (rest_of l.by_row (drop l.entry-index l.entries)) (λ v. dot_script l.rho (column_at l.by_row v)) l.sums.items l.stop
