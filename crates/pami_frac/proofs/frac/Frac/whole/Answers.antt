use Rattle.std.proofs.Common.{◌∙◌, to_z, of_z}
use Rattle.std.proofs.lemmas.Int.{to_z-of_z}
use mir.Syntax.{w64, w128}
use Rattle.pami_frac.proofs.Wholes.{whole_stored, whole_is}
use Rattle.pami_frac.proofs.frac.Frac.whole.Goals as goal

pub from_lowest-requires : goal.from_lowest-requires
from_lowest-requires c =
    let same = to_z-of_z w128 c.from.result (record { sfits = c.from.type_inv }) ∙ c.from.ensures ∙ to_z-of_z w64 c.args.number c.ranges.number in
    whole_stored c.args.number (to_z w128 (of_z w128 c.from.result)) same c.ranges.number.sfits

pub returns : goal.returns
returns c =
    let same = to_z-of_z w128 c.from.result (record { sfits = c.from.type_inv }) ∙ c.from.ensures ∙ to_z-of_z w64 c.args.number c.ranges.number in
    c.from_lowest.ensures ∙ whole_is c.args.number (to_z w128 (of_z w128 c.from.result)) same
