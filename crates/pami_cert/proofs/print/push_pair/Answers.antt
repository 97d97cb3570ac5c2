use Rattle.pami_frac.specs.Printed.{printed}
use Rattle.pami_cert.proofs.Joined.{pair_joined}
use Rattle.pami_cert.proofs.print.push_pair.Goals as goal

pub returns : goal.returns
returns c =
    pair_joined c.args.out.now.items c.args.tag.now c.args.name.now (printed c.args.value.now) (printed c.args.reduced.now) _ _ _ _ _ _ _ _
    c.in_ok-extend_from_slice.ensures.items c.in_ok-push.ensures.items c.in_ok-extend_from_slice-2.ensures.items c.in_ok-push-2.ensures.items
    c.in_ok-append_to.ensures.text c.in_ok-push-3.ensures.items c.in_ok-append_to-2.ensures.text c.in_ok-push-4.ensures.items
