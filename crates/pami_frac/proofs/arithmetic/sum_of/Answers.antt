use Rattle.std.proofs.Common.{rules, ap, sym, ◌∙◌, SFits, Some}
use Rattle.std.proofs.lemmas.Int.{to_z-of_z}
use mir.Syntax.{w128}
use Rattle.pami_algebra.specs.Reduced.{over}
use Rattle.pami_frac.proofs.Sum_parts.{moved, sum_none, sum_some}
use Rattle.pami_frac.proofs.Reducing.{pair_is, divisor_at, level_is}
use Rattle.pami_frac.proofs.arithmetic.sum_of.Goals as goal

pub reduce-requires-clause-below_fits : goal.reduce-requires-clause-below_fits
reduce-requires-clause-below_fits c =
    let x = to_z-of_z w128 c.numerator-a.result (record { sfits = c.numerator-a.type_inv }) ∙ c.numerator-a.ensures.value in
    let y = to_z-of_z w128 c.numerator-c.result (record { sfits = c.numerator-c.type_inv }) ∙ c.numerator-c.ensures.value in
    let e = moved c.args.p c.args.q _ _ c.below-b.result c.below-d.result c.gcd-common.result x c.below-b.ensures.value y c.below-d.ensures.value c.gcd-common.ensures.value in
    let h = pair_is c.args.p c.args.q c.in-Some.above c.in-Some.below (sym e ∙ sym c.in-Some.ensures) in
    (h.positive, h.below_small)

pub reduce-requires-clause-divisor : goal.reduce-requires-clause-divisor
reduce-requires-clause-divisor c =
    let x = to_z-of_z w128 c.numerator-a.result (record { sfits = c.numerator-a.type_inv }) ∙ c.numerator-a.ensures.value in
    let y = to_z-of_z w128 c.numerator-c.result (record { sfits = c.numerator-c.type_inv }) ∙ c.numerator-c.ensures.value in
    let e = moved c.args.p c.args.q _ _ c.below-b.result c.below-d.result c.gcd-common.result x c.below-b.ensures.value y c.below-d.ensures.value c.gcd-common.ensures.value in
    let fit : SFits w128 c.in-Some.above = search rules in
    divisor_at c.args.p c.args.q c.in-Some.above _ c.in-Some.below c.below-b.result c.below-d.result c.gcd-common.result (sym e ∙ sym c.in-Some.ensures) (to_z-of_z w128 c.in-Some.above fit) c.below-b.ensures.value c.below-d.ensures.value c.gcd-common.ensures.value

pub returns-in-Some : goal.returns-in-Some
returns-in-Some c =
    let x = to_z-of_z w128 c.numerator-a.result (record { sfits = c.numerator-a.type_inv }) ∙ c.numerator-a.ensures.value in
    let y = to_z-of_z w128 c.numerator-c.result (record { sfits = c.numerator-c.type_inv }) ∙ c.numerator-c.ensures.value in
    let e = moved c.args.p c.args.q _ _ c.below-b.result c.below-d.result c.gcd-common.result x c.below-b.ensures.value y c.below-d.ensures.value c.gcd-common.ensures.value in
    let fit : SFits w128 c.in-Some.above = search rules in
    ap Some (c.reduce.ensures ∙ ap (λ z. over z c.in-Some.below) (to_z-of_z w128 c.in-Some.above fit))
    ∙ sum_some c.args.p c.args.q c.in-Some.above c.in-Some.below (sym e ∙ sym c.in-Some.ensures)

pub returns-in-None : goal.returns-in-None
returns-in-None c =
    let x = to_z-of_z w128 c.numerator-a.result (record { sfits = c.numerator-a.type_inv }) ∙ c.numerator-a.ensures.value in
    let y = to_z-of_z w128 c.numerator-c.result (record { sfits = c.numerator-c.type_inv }) ∙ c.numerator-c.ensures.value in
    let e = moved c.args.p c.args.q _ _ c.below-b.result c.below-d.result c.gcd-common.result x c.below-b.ensures.value y c.below-d.ensures.value c.gcd-common.ensures.value in
    sum_none c.args.p c.args.q (sym e ∙ sym c.in-None.ensures)

pub returns-then-b-d : goal.returns-then-b-d
returns-then-b-d c =
    level_is c.args.p c.args.q c.numerator-a.result _ c.numerator-c.result _ c.below-b.result c.below-d.result c.level_sum.result
    (to_z-of_z w128 c.numerator-a.result (record { sfits = c.numerator-a.type_inv })) c.numerator-a.ensures.value (to_z-of_z w128 c.numerator-c.result (record { sfits = c.numerator-c.type_inv })) c.numerator-c.ensures.value
    c.numerator-a.ensures.small c.numerator-c.ensures.small c.below-b.ensures.positive c.below-b.ensures.small c.below-b.ensures.value c.below-d.ensures.value c.if-b-d.true c.level_sum.ensures
