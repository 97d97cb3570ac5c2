use Rattle.std.proofs.Common.{◌≤◌, ◌-◌, length}
use Rattle.pami_price.proofs.Summed.{Halves}
use Rattle.pami_price.proofs.sums.first_index.Given as goal

abbrev pub invariant-loop-low : goal.invariant-loop-low
invariant-loop-low l = (l.low ≤ l.high) × (l.high ≤ length l.entries) × Halves l.first l.entries l.low l.high

abbrev pub decreases-loop-low : goal.decreases-loop-low
decreases-loop-low l = l.high - l.low
