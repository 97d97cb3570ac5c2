use Rattle.std.proofs.Common.{◌≡◌, map}
use Rattle.std.specs.List.{range_with_len}
use Rattle.pami_state.specs.Sums.{standing_at}
use Rattle.pami_state.proofs.state.standing_values.Given as goal

abbrev pub invariant-loop-v : goal.invariant-loop-v
invariant-loop-v l = l.list.items ≡ map (standing_at l.bounds l.stands) (range_with_len 0 l.v)
