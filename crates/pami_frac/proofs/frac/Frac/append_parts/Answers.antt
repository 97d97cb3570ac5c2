use Rattle.std.proofs.Common.{◌≡◌, ap, ◌∙◌, sym, ◌++◌, to_z, of_z}
use Rattle.std.proofs.lemmas.Int.{to_z-of_z}
use mir.Syntax.{w128}
use Rattle.std.specs.Fmt.{signed_decimal}
use Rattle.pami_frac.proofs.Texts.{printed_whole, in_pieces, three_pieces}
use Rattle.pami_frac.proofs.frac.Frac.append_parts.Goals as goal

pub returns-else-below-ne1-clause-text : goal.returns-else-below-ne1-clause-text
returns-else-below-ne1-clause-text c =
    let back : to_z w128 (of_z w128 c.numerator.result) ≡ c.numerator.result = to_z-of_z w128 c.numerator.result (record { sfits = c.numerator.type_inv }) in
    c.in_ok-extend_from_slice.ensures.items
    ∙ ap (λ t. c.args.out.now.items ++ t)
    (c.as_bytes.ensures.value ∙ c.format.ensures.text ∙ ap signed_decimal (back ∙ c.numerator.ensures.value)
    ∙ sym (printed_whole c.args.self.now c.below-below.result c.below-below.ensures.value c.if-below-ne1.false))

pub returns-in_ok-extend_from_slice-3-clause-text : goal.returns-in_ok-extend_from_slice-3-clause-text
returns-in_ok-extend_from_slice-3-clause-text c =
    let back : to_z w128 (of_z w128 c.numerator.result) ≡ c.numerator.result = to_z-of_z w128 c.numerator.result (record { sfits = c.numerator.type_inv }) in
    three_pieces _ _ _ _ _ _ _ c.in_ok-extend_from_slice.ensures.items c.in_ok-extend_from_slice-2.ensures.items c.in_ok-extend_from_slice-3.ensures.items
    (in_pieces c.args.self.now c.below-below.result _ _ c.below-below.ensures.value c.if-below-ne1.true
    (c.as_bytes.ensures.value ∙ c.format.ensures.text ∙ ap signed_decimal (back ∙ c.numerator.ensures.value))
    (c.as_bytes-then-below-ne1.ensures.value ∙ c.format-then-below-ne1.ensures.text))
