use Rattle.pami_minor.proofs.HandedRows.{pick_follows}
use Rattle.pami_minor.proofs.picking.pick_row.Goals as goal

pub returns-clause-fresh : goal.returns-clause-fresh
returns-clause-fresh c = λ f limit r h.
    pick_follows f limit r c.args.rows.now c.args.at_limit c.pick_through.result h c.pick_through.ensures
