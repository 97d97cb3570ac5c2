use Rattle.pami_minor.proofs.WalkedRow.{walk_follows}
use Rattle.pami_minor.proofs.walk.walk_at.Goals as goal

pub returns-clause-fresh : goal.returns-clause-fresh
returns-clause-fresh c = λ b s h.
    walk_follows c.args.form.now b s c.args.stands.now c.args.reduced.now c.args.alpha.now c.args.rho.now c.args.row.now c.walk_row.result
    c.args.form.now.kept h c.walk_row.ensures
