use Rattle.std.proofs.Common.{◌≡◌, ◌+◌, ◌*◌, ◌^◌, arith, ap, ◌∙◌, sym}
use Rattle.pami_frac.proofs.DecimalLaws.{long_from, ten_more}
use Rattle.pami_frac.proofs.decimal.with_digit.Goals as goal

pub returns-then-digit-eq0-clause-read : goal.returns-then-digit-eq0-clause-read
returns-then-digit-eq0-clause-read c =
    let e : 10 ^ (c.args.digits.zeros + 1) ≡ 10 ^ c.args.digits.zeros * 10 = ten_more c.args.digits.zeros in
    sym (ap (λ n. (10 * c.args.digits.head + c.args.digits.last) * n) e ∙ omega arith)

pub returns-in-None-clause-read : goal.returns-in-None-clause-read
returns-in-None-clause-read c =
    long_from ((10 * c.args.digits.head + c.args.digits.last) * 10 ^ c.args.digits.zeros) c.args.digit c.in-None.ensures (omega arith) (omega arith)
