use Rattle.std.proofs.Common.{◌≡◌, map, take}
use Rattle.pami_minor.specs.Opening.{open_by}
use Rattle.pami_minor.proofs.opening.open_rows.Given as goal

abbrev pub invariant-loop-row : goal.invariant-loop-row
invariant-loop-row l = l.rows.items ≡ map (open_by l.form l.state) (take l.row-index l.chosen)
