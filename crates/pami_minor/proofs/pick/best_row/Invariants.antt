use Rattle.std.proofs.Common.{◌≡◌, ◌≤◌, length, map, drop}
use Rattle.pami_minor.specs.Rows.{best_by}
use Rattle.pami_minor.specs.Picks.{remaining_of}
use Rattle.pami_minor.proofs.pick.best_row.Given as goal

abbrev pub invariant-loop-i : goal.invariant-loop-i
invariant-loop-i l = (l.best ≡ best_by (map remaining_of (drop l.i l.rows)) (drop l.i l.nows)) × (l.i ≤ length l.rows)

abbrev pub decreases-loop-i : goal.decreases-loop-i
decreases-loop-i l = l.i
