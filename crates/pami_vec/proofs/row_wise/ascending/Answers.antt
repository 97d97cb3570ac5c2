use Rattle.std.proofs.Common.{◌≡◌, ◌+◌, ap, sym, ◌∙◌, subst, arith}
use Rattle.pami_vec.proofs.Turned.{ascending_next}
use Rattle.pami_vec.proofs.row_wise.ascending.Goals as goal

pub loop-number-preserved : goal.loop-number-preserved
loop-number-preserved c = ascending_next c.loop-number.number c.loop-number.numbers.items c.push.new.self.items c.loop-number.invariant c.in_ok-push.ensures.items
