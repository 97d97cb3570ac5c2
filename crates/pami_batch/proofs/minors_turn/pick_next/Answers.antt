use Rattle.std.proofs.Common.{◌+◌}
use Rattle.pami_batch.proofs.Scripts.{pick_fits}
use Rattle.pami_batch.proofs.minors_turn.pick_next.Goals as goal

pub returns-in-Ok-clause-pick : goal.returns-in-Ok-clause-pick
returns-in-Ok-clause-pick c = λ f limit r h.
    let a = c.in-Ok.ensures.pick f limit r h in
    (pick_fits f limit (c.args.taken + 1) r c.next_row.new.self c.in-Ok.pick a, a)
