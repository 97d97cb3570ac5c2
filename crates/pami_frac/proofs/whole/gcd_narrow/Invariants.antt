use Rattle.std.proofs.Common.{◌≡◌}
use Rattle.pami_algebra.specs.Fraction.{gcd as the_gcd}
use Rattle.pami_frac.proofs.whole.gcd_narrow.Given as goal

abbrev pub invariant-loop-y : goal.invariant-loop-y
invariant-loop-y l = the_gcd l.x l.y ≡ the_gcd l.fn.a l.fn.b

abbrev pub decreases-loop-y : goal.decreases-loop-y
decreases-loop-y l = l.y
