use Rattle.std.proofs.Common.{ap, ◌∙◌, inl, inr, to_z, of_z, Some}
use Rattle.std.proofs.lemmas.Int.{to_z-of_z}
use mir.Syntax.{w128}
use Rattle.pami_frac.specs.Checked.{small_nat}
use Rattle.pami_frac.proofs.Crosswise.{Crossed, cross_none, none_big, cross_made, moved_product}
use Rattle.pami_frac.proofs.arithmetic.cross.Goals as goal

pub returns-in_err-above : goal.returns-in_err-above
returns-in_err-above c =
    let k : Crossed c.args.a c.args.b c.args.c c.args.d c.gcd-outer.result c.gcd-inner.result = record { a_pos = c.requires.left.0; b_pos = c.requires.left.1; c_pos = c.requires.right.0; d_pos = c.requires.right.1; left = c.requires.left.2; right = c.requires.right.2; outer = c.gcd-outer.ensures.value; inner = c.gcd-inner.ensures.value } in
    rw c.from_residual.ensures (cross_none c.args.negative c.args.a c.args.b c.args.c c.args.d c.gcd-outer.result c.gcd-inner.result k (inl (none_big _ (moved_product small_nat _ c.quotient-left.result c.quotient-right.result _ _ c.quotient-left.ensures c.quotient-right.ensures c.in_err-above.ensures))))

pub returns-in_err-below : goal.returns-in_err-below
returns-in_err-below c =
    let k : Crossed c.args.a c.args.b c.args.c c.args.d c.gcd-outer.result c.gcd-inner.result = record { a_pos = c.requires.left.0; b_pos = c.requires.left.1; c_pos = c.requires.right.0; d_pos = c.requires.right.1; left = c.requires.left.2; right = c.requires.right.2; outer = c.gcd-outer.ensures.value; inner = c.gcd-inner.ensures.value } in
    rw c.from_residual-in_err-below.ensures (cross_none c.args.negative c.args.a c.args.b c.args.c c.args.d c.gcd-outer.result c.gcd-inner.result k (inr (none_big _ (moved_product small_nat _ c.quotient-rest.result c.quotient-other.result _ _ c.quotient-rest.ensures c.quotient-other.ensures c.in_err-below.ensures))))

pub from_lowest-requires : goal.from_lowest-requires
from_lowest-requires c =
    let k : Crossed c.args.a c.args.b c.args.c c.args.d c.gcd-outer.result c.gcd-inner.result = record { a_pos = c.requires.left.0; b_pos = c.requires.left.1; c_pos = c.requires.right.0; d_pos = c.requires.right.1; left = c.requires.left.2; right = c.requires.right.2; outer = c.gcd-outer.ensures.value; inner = c.gcd-inner.ensures.value } in
    (cross_made c.args.negative c.args.a c.args.b c.args.c c.args.d c.gcd-outer.result c.gcd-inner.result c.in_ok-above.above c.in_ok-below.below c.signed.result (to_z w128 (of_z w128 c.signed.result)) k (moved_product small_nat _ c.quotient-left.result c.quotient-right.result _ _ c.quotient-left.ensures c.quotient-right.ensures c.in_ok-above.ensures) (moved_product small_nat _ c.quotient-rest.result c.quotient-other.result _ _ c.quotient-rest.ensures c.quotient-other.ensures c.in_ok-below.ensures) (to_z-of_z w128 c.signed.result (record { sfits = c.signed.type_inv })) c.signed.ensures).0

pub returns : goal.returns
returns c =
    let k : Crossed c.args.a c.args.b c.args.c c.args.d c.gcd-outer.result c.gcd-inner.result = record { a_pos = c.requires.left.0; b_pos = c.requires.left.1; c_pos = c.requires.right.0; d_pos = c.requires.right.1; left = c.requires.left.2; right = c.requires.right.2; outer = c.gcd-outer.ensures.value; inner = c.gcd-inner.ensures.value } in
    ap Some c.from_lowest.ensures ∙ (cross_made c.args.negative c.args.a c.args.b c.args.c c.args.d c.gcd-outer.result c.gcd-inner.result c.in_ok-above.above c.in_ok-below.below c.signed.result (to_z w128 (of_z w128 c.signed.result)) k (moved_product small_nat _ c.quotient-left.result c.quotient-right.result _ _ c.quotient-left.ensures c.quotient-right.ensures c.in_ok-above.ensures) (moved_product small_nat _ c.quotient-rest.result c.quotient-other.result _ _ c.quotient-rest.ensures c.quotient-other.ensures c.in_ok-below.ensures) (to_z-of_z w128 c.signed.result (record { sfits = c.signed.type_inv })) c.signed.ensures).1
