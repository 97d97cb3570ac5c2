use Rattle.std.proofs.Common.{◌≡◌, map}
use Rattle.std.specs.List.{range_with_len}
use Rattle.pami_phase.specs.Switches.{switched_at}
use Rattle.pami_phase.proofs.switch.switched_stands.Given as goal

abbrev pub invariant-loop-v : goal.invariant-loop-v
invariant-loop-v l = l.found.items ≡ map (switched_at l.bounds l.stands l.reduced) (range_with_len 0 l.v)
