use Rattle.std.proofs.Common.{◌≡◌, ◌-◌, length, drop}
use Rattle.pami_lu.specs.Ahead.{from_place}
use Rattle.pami_lu.proofs.reduce.index_from.Given as goal

abbrev pub invariant-loop-k : goal.invariant-loop-k
invariant-loop-k l = from_place l.place (drop l.from l.entries) ≡ from_place l.place (drop l.k l.entries)

abbrev pub decreases-loop-k : goal.decreases-loop-k
decreases-loop-k l = length l.entries - l.k
