use Rattle.pami_minor.proofs.HandedRows.{IsFound}
use Rattle.pami_minor.proofs.picking.look_through.Given as goal

abbrev pub invariant-loop-row : goal.invariant-loop-row
invariant-loop-row l = IsFound l.rows l.row-index l.dropped.items l.best
