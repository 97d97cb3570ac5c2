use Rattle.std.proofs.Common.{◌≡◌, drop, length}
use Rattle.pami_minor.specs.Turned.{all_turned}
use Rattle.pami_minor.proofs.turns.turn_stands.Given as goal

abbrev pub invariant-loop-v : goal.invariant-loop-v
invariant-loop-v l = (all_turned l.fn.stands l.flips ≡ all_turned l.stands (drop l.v-index l.flips)) × (length l.stands ≡ length l.fn.stands)
