use Rattle.std.proofs.lemmas.Int.{to_z-of_z}
use mir.Syntax.{w128}
use Rattle.pami_frac.proofs.Crosswise.{product_is}
use Rattle.pami_frac.proofs.WholeProducts.{whole_product_is}
use Rattle.pami_frac.proofs.arithmetic.product_of.Goals as goal

pub returns-then-d-eq1 : goal.returns-then-d-eq1
returns-then-d-eq1 c =
    whole_product_is c.args.p c.args.q c.numerator.result _ c.numerator-then-d-eq1.result _ c.below-b.result c.below-d.result c.whole_product.result
    (to_z-of_z w128 c.numerator.result (record { sfits = c.numerator.type_inv })) c.numerator.ensures.value (to_z-of_z w128 c.numerator-then-d-eq1.result (record { sfits = c.numerator-then-d-eq1.type_inv })) c.numerator-then-d-eq1.ensures.value
    c.below-b.ensures.value c.below-d.ensures.value c.if-b-eq1.true c.if-d-eq1.true c.whole_product.ensures

pub returns : goal.returns
returns c = product_is c.args.p c.args.q c.is_negative.result c.is_negative-2.result c.magnitude.result c.magnitude-2.result c.below-b.result c.below-d.result c.cross.result
    c.is_negative.ensures.test c.is_negative-2.ensures.test c.magnitude.ensures.value c.magnitude-2.ensures.value c.below-b.ensures.value c.below-d.ensures.value c.cross.ensures
