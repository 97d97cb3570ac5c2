use Rattle.std.proofs.Common.{◌∙◌, to_z, of_z}
use Rattle.std.proofs.lemmas.Int.{to_z-of_z}
use mir.Syntax.{w128}
use Rattle.pami_frac.proofs.Inverses.{inverse_at}
use Rattle.pami_frac.proofs.frac.Frac.inverse.Goals as goal

pub from_lowest-requires : goal.from_lowest-requires
from_lowest-requires c =
    (inverse_at c.args.self c.signed.result (to_z w128 (of_z w128 c.signed.result)) c.is_negative.result c.below.result c.magnitude.result c.requires c.magnitude.ensures.small c.below.ensures.small
    c.magnitude.ensures.value c.below.ensures.value c.is_negative.ensures.test (to_z-of_z w128 c.signed.result (record { sfits = c.signed.type_inv })) c.signed.ensures).0

pub returns : goal.returns
returns c =
    c.from_lowest.ensures
    ∙ (inverse_at c.args.self c.signed.result (to_z w128 (of_z w128 c.signed.result)) c.is_negative.result c.below.result c.magnitude.result c.requires c.magnitude.ensures.small c.below.ensures.small
    c.magnitude.ensures.value c.below.ensures.value c.is_negative.ensures.test (to_z-of_z w128 c.signed.result (record { sfits = c.signed.type_inv })) c.signed.ensures).1
