use Rattle.std.proofs.Common.{◌≡◌, ◌+◌, ◌*◌, ◌<◌, ◌^◌, ap, ◌∙◌, arith}
use Rattle.pami_frac.proofs.DecimalLaws.{ten_below, wide_up}
use Rattle.pami_frac.proofs.DecimalScale.{scaled_none, scaled_whole}
use Rattle.pami_frac.proofs.decimal.raised.Goals as goal

pub returns-in_err-tens : goal.returns-in_err-tens
returns-in_err-tens c =
    let m = 10 * c.args.digits.head + c.args.digits.last in
    rw c.from_residual.ensures (scaled_none c.args.negative m c.args.power (wide_up m c.args.power (2 ^ 127) (omega (arith, c.in_err-tens.ensures))))

pub returns-in_err-all : goal.returns-in_err-all
returns-in_err-all c =
    let m = 10 * c.args.digits.head + c.args.digits.last in
    rw c.from_residual-in_err-all.ensures (scaled_none c.args.negative m c.args.power (wide_up m c.args.power (2 ^ 127) (omega (arith, c.in_err-all.ensures, c.in_ok-tens.ensures))))

pub pow-requires : goal.pow-requires
pow-requires c = let k : 10 ^ c.args.power < 2 ^ 127 = ten_below c.args.power c.requires in omega arith

pub returns-in_err-above : goal.returns-in_err-above
returns-in_err-above c =
    let m = 10 * c.args.digits.head + c.args.digits.last in
    let a : c.in_ok-all.all ≡ m = omega (arith, c.in_ok-all.ensures, c.in_ok-tens.ensures) in
    let e : c.in_ok-all.all * c.pow.result ≡ m * 10 ^ c.args.power = ap (λ n. n * c.pow.result) a ∙ ap (λ n. m * n) c.pow.ensures in
    rw c.from_residual-in_err-above.ensures (scaled_none c.args.negative m c.args.power (omega (arith, c.in_err-above.ensures, e)))

pub returns : goal.returns
returns c =
    let m = 10 * c.args.digits.head + c.args.digits.last in
    let a : c.in_ok-all.all ≡ m = omega (arith, c.in_ok-all.ensures, c.in_ok-tens.ensures) in
    let e : c.in_ok-all.all * c.pow.result ≡ m * 10 ^ c.args.power = ap (λ n. n * c.pow.result) a ∙ ap (λ n. m * n) c.pow.ensures in
    c.make.ensures ∙ scaled_whole c.args.negative m c.args.power c.in_ok-above.above (omega (arith, c.in_ok-above.ensures, e))
