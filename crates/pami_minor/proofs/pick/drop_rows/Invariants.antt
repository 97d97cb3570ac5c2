use Rattle.std.proofs.Common.{◌≡◌, ◌≤◌, ◌++◌, length, take, drop}
use Rattle.pami_minor.specs.Picks.{staying_by}
use Rattle.pami_minor.proofs.pick.drop_rows.Given as goal

abbrev pub invariant-loop-i : goal.invariant-loop-i
invariant-loop-i l =
    (l.rows.items ≡ take l.i l.fn.rows.items ++ staying_by (drop l.i l.fn.rows.items) (drop l.i l.nows)) × (l.i ≤ length l.nows)

abbrev pub decreases-loop-i : goal.decreases-loop-i
decreases-loop-i l = l.i
