use Rattle.std.proofs.Common.{◌-◌, length}
use Rattle.pami_range.proofs.Places.{IsPast}
use Rattle.pami_range.proofs.costs.place_of.Given as goal

abbrev pub invariant-loop-place : goal.invariant-loop-place
invariant-loop-place l = IsPast l.head l.variable l.place

abbrev pub decreases-loop-place : goal.decreases-loop-place
decreases-loop-place l = length l.head - l.place
