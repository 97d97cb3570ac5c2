use Rattle.std.proofs.Common.{◌∙◌, ap, sym, arith}
use Rattle.pami_algebra.specs.Fraction.{gcd as the_gcd}
use Rattle.pami_algebra.specs.Gcd.{gcd_step, gcd_end}
use Rattle.pami_frac.proofs.whole.gcd_narrow.Goals as goal

pub loop-y-preserved : goal.loop-y-preserved
loop-y-preserved c = gcd_step c.loop-y.x c.loop-y.y (omega arith) ∙ c.loop-y.invariant

pub returns : goal.returns
returns c = sym (gcd_end c.loop-y.x) ∙ ap (the_gcd c.loop-y.x) (sym (omega arith)) ∙ c.loop-y.invariant
