use Rattle.std.proofs.Common.{◌≡◌, subst, sym, to_z, of_z}
use Rattle.std.proofs.lemmas.Int.{to_z-of_z}
use mir.Syntax.{w128}
use lib.IntN.{pos, ◌+ℤ◌, ◌-ℤ◌}
use Rattle.pami_frac.specs.Decimal.{power_of, scaled}
use Rattle.pami_frac.specs.Range.{signed_of}
use Rattle.pami_frac.specs.DecimalDigits.{IsRead, IsSameScale}
use Rattle.pami_frac.proofs.DecimalOutcome.{judged_zero, judged_wide, judged_held}
use Rattle.pami_frac.proofs.decimal.value_of.Goals as goal

pub returns-in-Zero-clause-refused : goal.returns-in-Zero-clause-refused
returns-in-Zero-clause-refused c m h = (judged_zero c.args.negative m (power_of c.args.part.now -ℤ pos c.args.places) c.make.result (subst (λ x. IsRead x m) c.in-Zero.is h) c.make.ensures).refused

pub returns-in-Zero-clause-value : goal.returns-in-Zero-clause-value
returns-in-Zero-clause-value c m h = (judged_zero c.args.negative m (power_of c.args.part.now -ℤ pos c.args.places) c.make.result (subst (λ x. IsRead x m) c.in-Zero.is h) c.make.ensures).value

pub returns-in-Held-clause-refused : goal.returns-in-Held-clause-refused
returns-in-Held-clause-refused c m h =
    let d = c.in-Held.digits in
    let e = power_of c.args.part.now -ℤ pos c.args.places in
    let x = c.exponent_of-exponent.result in
    let back : to_z w128 (of_z w128 x) ≡ x = to_z-of_z w128 x (record { sfits = c.exponent_of-exponent.type_inv }) in
    (judged_held c.args.negative m d.head d.last d.zeros e (to_z w128 (of_z w128 x)) c.scaled.result (subst (λ t. IsRead t m) c.in-Held.is h) d.short.few d.short.nonzero d.short.digit
    (subst (λ z. IsSameScale z (e +ℤ pos d.zeros)) (sym back) c.exponent_of-exponent.ensures) c.scaled.ensures.refused c.scaled.ensures.value).refused

pub returns-in-Held-clause-value : goal.returns-in-Held-clause-value
returns-in-Held-clause-value c m h =
    let d = c.in-Held.digits in
    let e = power_of c.args.part.now -ℤ pos c.args.places in
    let x = c.exponent_of-exponent.result in
    let back : to_z w128 (of_z w128 x) ≡ x = to_z-of_z w128 x (record { sfits = c.exponent_of-exponent.type_inv }) in
    (judged_held c.args.negative m d.head d.last d.zeros e (to_z w128 (of_z w128 x)) c.scaled.result (subst (λ t. IsRead t m) c.in-Held.is h) d.short.few d.short.nonzero d.short.digit
    (subst (λ z. IsSameScale z (e +ℤ pos d.zeros)) (sym back) c.exponent_of-exponent.ensures) c.scaled.ensures.refused c.scaled.ensures.value).value

pub returns-in-Wide-clause-refused : goal.returns-in-Wide-clause-refused
returns-in-Wide-clause-refused c m h =
    let e = power_of c.args.part.now -ℤ pos c.args.places in
    (judged_wide m e (scaled (signed_of c.args.negative m) e) (subst (λ x. IsRead x m) c.in-Wide.is h)).refused
