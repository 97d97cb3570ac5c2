use Rattle.std.proofs.Common.{◌<◌, ◌+◌, ◌*◌, arith, rules}
use lib.IntN.{pos}
use lib.Signed.{◌<ℤ◌}
use Rattle.pami_frac.proofs.DecimalScale.{scaled_large}
use Rattle.pami_frac.proofs.decimal.scaled.Goals as goal

pub returns-then-exponent-gt38-clause-value : goal.returns-then-exponent-gt38-clause-value
returns-then-exponent-gt38-clause-value c h =
    let p : 0 < c.args.digits.last = c.args.digits.short.nonzero in
    let k : pos 38 <ℤ c.args.exponent = search rules in
    scaled_large c.args.negative (10 * c.args.digits.head + c.args.digits.last) c.args.exponent (omega arith) k
