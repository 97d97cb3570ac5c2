use Rattle.std.proofs.Common.{◌<◌, sym, ◌∙◌, subst, to_z, of_z}
use Rattle.std.proofs.lemmas.Int.{to_z-of_z}
use mir.Syntax.{w128}
use lib.IntN.{nat_abs}
use Rattle.pami_algebra.specs.Reduced.{gcd_pos}
use Rattle.pami_frac.proofs.Reducing.{stored_lowest, shared_is, reduced_at}
use Rattle.pami_frac.proofs.arithmetic.reduce.Goals as goal

pub from_lowest-requires : goal.from_lowest-requires
from_lowest-requires c =
    stored_lowest c.args.above (to_z w128 (of_z w128 c.args.above)) c.args.below c.args.common (to_z-of_z w128 c.args.above c.ranges.above) c.if-common-eq1.true
    c.requires.below_fits.0 c.requires.above_fits c.requires.below_fits.1 c.requires.divisor

pub from_lowest-requires-2 : goal.from_lowest-requires-2
from_lowest-requires-2 c =
    (reduced_at c.args.above (to_z w128 (of_z w128 c.args.above)) c.signed.result (to_z w128 (of_z w128 c.signed.result)) c.unsigned_abs-magnitude.result c.args.below c.args.common c.gcd-shared.result c.quotient-numerator.result c.quotient-denominator.result
    (to_z-of_z w128 c.args.above c.ranges.above) c.unsigned_abs-magnitude.ensures.value c.gcd-shared.ensures.value c.requires.divisor
    c.requires.below_fits.0 c.requires.above_fits c.requires.below_fits.1 c.quotient-numerator.ensures c.quotient-denominator.ensures (to_z-of_z w128 c.signed.result (record { sfits = c.signed.type_inv })) c.signed.ensures).0

pub returns : goal.returns
returns c =
    c.from_lowest-2.ensures
    ∙ (reduced_at c.args.above (to_z w128 (of_z w128 c.args.above)) c.signed.result (to_z w128 (of_z w128 c.signed.result)) c.unsigned_abs-magnitude.result c.args.below c.args.common c.gcd-shared.result c.quotient-numerator.result c.quotient-denominator.result
    (to_z-of_z w128 c.args.above c.ranges.above) c.unsigned_abs-magnitude.ensures.value c.gcd-shared.ensures.value c.requires.divisor
    c.requires.below_fits.0 c.requires.above_fits c.requires.below_fits.1 c.quotient-numerator.ensures c.quotient-denominator.ensures (to_z-of_z w128 c.signed.result (record { sfits = c.signed.type_inv })) c.signed.ensures).1

pub quotient-numerator-requires : goal.quotient-numerator-requires
quotient-numerator-requires c =
    let same = shared_is c.args.above (to_z w128 (of_z w128 c.args.above)) c.unsigned_abs-magnitude.result c.args.below c.args.common c.gcd-shared.result
    (to_z-of_z w128 c.args.above c.ranges.above) c.unsigned_abs-magnitude.ensures.value c.gcd-shared.ensures.value c.requires.divisor in
    subst (λ n. 0 < n) (sym same) (gcd_pos (nat_abs c.args.above) c.args.below c.requires.below_fits.0)

pub quotient-denominator-requires : goal.quotient-denominator-requires
quotient-denominator-requires c =
    let same = shared_is c.args.above (to_z w128 (of_z w128 c.args.above)) c.unsigned_abs-magnitude.result c.args.below c.args.common c.gcd-shared.result
    (to_z-of_z w128 c.args.above c.ranges.above) c.unsigned_abs-magnitude.ensures.value c.gcd-shared.ensures.value c.requires.divisor in
    subst (λ n. 0 < n) (sym same) (gcd_pos (nat_abs c.args.above) c.args.below c.requires.below_fits.0)
