use Rattle.pami_minor.proofs.ShiftFollows.{shift_follows}
use Rattle.pami_minor.proofs.shift.shift_at.Goals as goal

pub returns-clause-fresh : goal.returns-clause-fresh
returns-clause-fresh c = λ f limit m next slice b.
    shift_follows f limit m next slice c.args.reduced.now c.args.alpha.now c.args.step.now c.args.side c.shift_costs.result b c.shift_costs.ensures
