use Rattle.std.proofs.Common.{◌≡◌, ◌≤◌, ◌++◌, map, drop, vec_len, vec_capacity}
use Rattle.pami_minor.specs.Rows.{dropped_by}
use Rattle.pami_minor.specs.Picks.{remaining_of}
use Rattle.pami_minor.proofs.pick.note_dropped.Given as goal

abbrev pub invariant-loop-i : goal.invariant-loop-i
invariant-loop-i l =
    (dropped_by (map remaining_of l.rows) l.nows ≡ l.dropped.items ++ dropped_by (map remaining_of (drop l.i l.rows)) (drop l.i l.nows))
    × (vec_len l.dropped ≤ l.i) × (vec_capacity l.dropped ≡ vec_capacity l.fn.dropped)
