use Rattle.std.proofs.Common.{◌≡◌, ◌/◌, arith, subst, sym, ap, ◌∙◌, Some, to_z, of_z}
use Rattle.std.proofs.lemmas.Int.{to_z-of_z}
use mir.Syntax.{w128}
use Rattle.pami_algebra.specs.Reduced.{over}
use Rattle.pami_frac.specs.Stored.{IsStored}
use Rattle.pami_frac.proofs.Signed.{kept_of, make_some}
use Rattle.pami_frac.proofs.frac.make.Goals as goal

pub invariant_of-result : goal.invariant_of-result
invariant_of-result c =
    let back : to_z w128 (of_z w128 c.signed.result) ≡ c.signed.result = to_z-of_z w128 c.signed.result (record { sfits = c.signed.type_inv }) in
    subst (λ z. IsStored z (c.args.below / c.gcd-common.result)) (sym (back ∙ c.signed.ensures))
    (kept_of c.args.negative c.args.above c.args.below c.gcd-common.result c.requires c.gcd-common.ensures.value (omega arith) (omega arith))

pub returns : goal.returns
returns c =
    let back : to_z w128 (of_z w128 c.signed.result) ≡ c.signed.result = to_z-of_z w128 c.signed.result (record { sfits = c.signed.type_inv }) in
    ap (λ z. Some (over z (c.args.below / c.gcd-common.result))) (back ∙ c.signed.ensures)
    ∙ make_some c.args.negative c.args.above c.args.below c.gcd-common.result c.requires c.gcd-common.ensures.value (omega arith) (omega arith)
