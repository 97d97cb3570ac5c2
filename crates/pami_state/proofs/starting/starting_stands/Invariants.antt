use Rattle.std.proofs.Common.{◌≡◌, map}
use Rattle.std.specs.List.{range_with_len}
use Rattle.pami_state.specs.Sums.{stand_by_lists}
use Rattle.pami_state.proofs.starting.starting_stands.Given as goal

abbrev pub invariant-loop-v : goal.invariant-loop-v
invariant-loop-v l = l.stands.items ≡ map (stand_by_lists l.columns l.bounds l.costs) (range_with_len 0 l.v)
