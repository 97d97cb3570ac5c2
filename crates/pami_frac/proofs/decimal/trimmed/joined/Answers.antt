use Rattle.std.proofs.Common.{◌<◌, ◌≤◌, ◌+◌, ◌*◌, ◌^◌, arith}
use Rattle.pami_frac.proofs.DecimalLaws.{zeros_large, ten_le, wide_up}
use Rattle.pami_frac.proofs.decimal.trimmed.joined.Goals as goal

pub returns-then-digits-gt37 : goal.returns-then-digits-gt37
returns-then-digits-gt37 c =
    let p : 0 < c.args.digits.last = c.args.digits.short.nonzero in
    zeros_large (10 * c.args.digits.head + c.args.digits.last) c.args.digits.zeros (omega arith) (omega arith)

pub pow-shift-requires : goal.pow-shift-requires
pow-shift-requires c = let k : 10 ^ c.args.digits.zeros ≤ 10 ^ 37 = ten_le c.args.digits.zeros 37 (omega arith) in omega arith

pub returns-then-pow-digits : goal.returns-then-pow-digits
returns-then-pow-digits c =
    let e : 10 ^ 37 ≤ c.args.digits.head = omega (arith, c.pow.ensures) in
    wide_up (10 * c.args.digits.head + c.args.digits.last) c.args.digits.zeros (10 ^ 38) (omega arith)
