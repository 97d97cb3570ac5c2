use Rattle.pami_range.proofs.Places.{found_here, found_past}
use Rattle.pami_range.proofs.costs.place_of.Goals as goal

pub returns-else-head-place : goal.returns-else-head-place
returns-else-head-place c = record { place = found_here c.args.head.now c.args.variable c.loop-place.place c.loop-place-test.true c.if-head-place.false c.loop-place.invariant.1 }

pub returns-after-loop-place : goal.returns-after-loop-place
returns-after-loop-place c = record { place = found_past c.args.head.now c.args.variable c.loop-place.place c.loop-place-test.false c.loop-place.invariant }
