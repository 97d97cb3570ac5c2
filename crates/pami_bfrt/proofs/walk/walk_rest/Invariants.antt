use Rattle.std.proofs.Common.{◌≡◌, drop}
use Rattle.pami_bfrt.specs.Walks.{walk_over, onward}
use Rattle.pami_bfrt.proofs.walk.walk_rest.Given as goal

abbrev pub invariant-loop-candidate : goal.invariant-loop-candidate
invariant-loop-candidate l = onward l.fn.flips.items (walk_over l.left l.fn.slope) ≡ onward l.flips.items (walk_over (drop l.candidate-index l.left) l.slope)
