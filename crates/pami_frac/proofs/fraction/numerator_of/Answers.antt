use Rattle.std.proofs.Common.{◌≡◌, ◌∙◌, sym, ap, Some, arith, nat_abs, to_z, of_z}
use Rattle.std.proofs.lemmas.Int.{to_z-of_z}
use mir.Syntax.{w128}
use Rattle.pami_frac.specs.Range.{signed_of}
use Rattle.pami_frac.proofs.PrintedParts.{sign_of_text, rest_of_text, signed_back, minus_not_zero, no_value, same_value}
use Rattle.pami_frac.proofs.fraction.numerator_of.Goals as goal

pub returns-in-None-clause-only : goal.returns-in-None-clause-only
returns-in-None-clause-only c = λ z l e. no_value (c.in-None.ensures.only (nat_abs z) l (c.without_minus.ensures ∙ rest_of_text z c.args.bytes.now l e))

pub returns-then-number-gt-LARGEST-clause-only : goal.returns-then-number-gt-LARGEST-clause-only
returns-then-number-gt-LARGEST-clause-only c = λ z l e.
    let m : c.in-Some.number ≡ nat_abs z = same_value (c.in-Some.ensures.only (nat_abs z) l (c.without_minus.ensures ∙ rest_of_text z c.args.bytes.now l e)) in
    let g = c.if-number-gt-LARGEST.true in
    absurd (omega (arith, m, l, g))

pub returns-then-number-eq0-clause-only : goal.returns-then-number-eq0-clause-only
returns-then-number-eq0-clause-only c = λ z l e.
    let m : c.in-Some.number ≡ nat_abs z = same_value (c.in-Some.ensures.only (nat_abs z) l (c.without_minus.ensures ∙ rest_of_text z c.args.bytes.now l e)) in
    absurd (minus_not_zero z (sym (sign_of_text z c.args.bytes.now l e) ∙ sym c.is_negative-negative.ensures ∙ c.if-negative.true) (sym m ∙ c.if-number-eq0.true))

pub returns-clause-only : goal.returns-clause-only
returns-clause-only c = λ z l e.
    let m : c.in-Some.number ≡ nat_abs z = same_value (c.in-Some.ensures.only (nat_abs z) l (c.without_minus.ensures ∙ rest_of_text z c.args.bytes.now l e)) in
    let back : to_z w128 (of_z w128 c.signed.result) ≡ c.signed.result = to_z-of_z w128 c.signed.result (record { sfits = c.signed.type_inv }) in
    ap Some (back ∙ c.signed.ensures ∙ ap (λ n. signed_of c.is_negative-negative.result n) m ∙ ap (λ b. signed_of b (nat_abs z)) (c.is_negative-negative.ensures ∙ sign_of_text z c.args.bytes.now l e) ∙ signed_back z)
