use Rattle.std.proofs.Common.{◌≡◌, take}
use Rattle.pami_batch.proofs.StartedStates.{bounds_at}
use Rattle.pami_batch.proofs.drawn_tests.place_bounds.Given as goal

abbrev pub invariant-loop-v : goal.invariant-loop-v
invariant-loop-v l = l.by_place.items ≡ bounds_at l.bounds (take l.v-index l.head)
