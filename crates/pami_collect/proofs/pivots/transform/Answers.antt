use Rattle.std.proofs.Common.{length, ap, arith}
use Rattle.pami_collect.proofs.pivots.transform.Goals as goal

pub from_dense-requires : goal.from_dense-requires
from_dense-requires c =
    let few = c.len-length.type_inv in
    let count = c.len-length.ensures in
    let read = ap length c.as_slice.ensures.value in
    let through = c.in_ok-go_through_all.ensures.as_many in
    let lent = ap length c.as_mut_slice.ensures.value in
    let dense = ap length c.in_ok-members.ensures in
    omega (arith, few, count, read, through, lent, dense)
