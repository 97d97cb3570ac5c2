use Rattle.std.proofs.Common.{◌≡◌, ◌++◌, drop, map}
use Rattle.pami_factor.proofs.Rises.{untaken}
use Rattle.pami_factor.proofs.backward.all_left.Given as goal

abbrev pub invariant-loop-member : goal.invariant-loop-member
invariant-loop-member l = map untaken l.right ≡ l.rests.items ++ map untaken (drop l.member-index l.right)
