use Rattle.std.proofs.Common.{arith}
use Rattle.pami_frac.proofs.Digits.{bits_by_log}
use Rattle.pami_frac.proofs.size.digits.Goals as goal

pub returns-clause-value : goal.returns-clause-value
returns-clause-value c = omega (arith, bits_by_log c.args.n c.ilog2.result c.requires.0 c.ilog2.ensures.power_le c.ilog2.ensures.next_power_gt)
