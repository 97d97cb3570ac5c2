use Rattle.std.proofs.Common.{rules, SFits, to_z, of_z}
use Rattle.std.proofs.lemmas.Int.{to_z-of_z}
use mir.Syntax.{w128}
use lib.IntN.{◌*ℤ◌}
use Rattle.pami_frac.proofs.Reducing.{stored_whole, kept_is_small}
use Rattle.pami_frac.proofs.arithmetic.whole_product.Goals as goal

pub from_lowest-requires : goal.from_lowest-requires
from_lowest-requires c =
    let fit : SFits w128 c.in-Some.product = search rules in
    stored_whole c.in-Some.product _ (to_z-of_z w128 c.in-Some.product fit) (kept_is_small (to_z w128 (of_z w128 c.args.a) *ℤ to_z w128 (of_z w128 c.args.c)) c.in-Some.product c.in-Some.ensures)
