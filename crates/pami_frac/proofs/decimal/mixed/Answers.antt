use Rattle.std.proofs.Common.{◌≡◌, ◌+◌, ◌*◌, ◌/◌, ◌%◌, ◌<◌, refl, ap, ◌∙◌, arith}
use Rattle.pami_algebra.specs.Reduced.{over}
use Rattle.pami_frac.specs.Range.{signed_of, kept}
use Rattle.std.proofs.Math.Nat.{mod-lt}
use Rattle.pami_frac.proofs.DecimalScale.{IsMixed, mixed_some, mixed_none, mixed_pos}
use Rattle.pami_frac.proofs.decimal.mixed.Goals as goal

pub overflow_mul-rest : goal.overflow_mul-rest
overflow_mul-rest c = let s : c.args.digits.head % c.args.tens < c.args.tens = mod-lt c.args.digits.head c.requires.0 in omega arith

pub overflow_add-rest : goal.overflow_add-rest
overflow_add-rest c =
    let s : c.args.digits.head % c.args.tens < c.args.tens = mod-lt c.args.digits.head c.requires.0 in
    let d : c.args.digits.last < 10 = c.args.digits.short.digit in omega arith

pub returns-in_err-parts : goal.returns-in_err-parts
returns-in_err-parts c =
    let h = c.args.digits.head in let l = c.args.digits.last in let t = c.args.tens in
    let m : IsMixed h l t (h / t) (10 * (h % t) + l) c.gcd-common.result = record { tens_pos = c.requires.0; digit = c.args.digits.short.digit; whole_is = refl; rest_is = refl; common_is = c.gcd-common.ensures.value } in
    rw c.from_residual.ensures (mixed_none c.args.negative h l t (h / t) (10 * (h % t) + l) c.gcd-common.result m (omega arith) (omega (arith, c.in_err-parts.ensures)))

pub returns-in_err-above : goal.returns-in_err-above
returns-in_err-above c =
    let h = c.args.digits.head in let l = c.args.digits.last in let t = c.args.tens in
    let m : IsMixed h l t (h / t) (10 * (h % t) + l) c.gcd-common.result = record { tens_pos = c.requires.0; digit = c.args.digits.short.digit; whole_is = refl; rest_is = refl; common_is = c.gcd-common.ensures.value } in
    rw c.from_residual-in_err-above.ensures (mixed_none c.args.negative h l t (h / t) (10 * (h % t) + l) c.gcd-common.result m (omega arith) (omega (arith, c.in_err-above.ensures, c.in_ok-parts.ensures)))

pub make-requires : goal.make-requires
make-requires c =
    let h = c.args.digits.head in let l = c.args.digits.last in let t = c.args.tens in
    let m : IsMixed h l t (h / t) (10 * (h % t) + l) c.gcd-common.result = record { tens_pos = c.requires.0; digit = c.args.digits.short.digit; whole_is = refl; rest_is = refl; common_is = c.gcd-common.ensures.value } in
    mixed_pos h l t (h / t) (10 * (h % t) + l) c.gcd-common.result m

pub returns : goal.returns
returns c =
    let h = c.args.digits.head in let l = c.args.digits.last in let t = c.args.tens in
    let m : IsMixed h l t (h / t) (10 * (h % t) + l) c.gcd-common.result = record { tens_pos = c.requires.0; digit = c.args.digits.short.digit; whole_is = refl; rest_is = refl; common_is = c.gcd-common.ensures.value } in
    c.make.ensures
    ∙ ap (λ n. kept (over (signed_of c.args.negative n) (10 * t / c.gcd-common.result))) (let e : c.in_ok-above.above ≡ h / t * (10 * t / c.gcd-common.result) + (10 * (h % t) + l) / c.gcd-common.result = omega (arith, c.in_ok-parts.ensures, c.in_ok-above.ensures) in e)
    ∙ mixed_some c.args.negative h l t (h / t) (10 * (h % t) + l) c.gcd-common.result m (omega arith)
