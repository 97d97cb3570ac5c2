use Rattle.std.proofs.Common.{◌≡◌, ◌++◌, List, Option, map, drop, Ok, vec_len, vec_capacity}
use Rattle.pami_script.specs.Script.{then, each_member}
use Rattle.pami_minor.specs.declared.row.RowNow.{RowNow}
use Rattle.pami_minor.specs.Rows.{look_by, looks_by}
use Rattle.pami_minor.specs.Picks.{remaining_of}
use Rattle.pami_minor.proofs.pick.look_at.Given as goal

abbrev pub invariant-loop-row : goal.invariant-loop-row
invariant-loop-row l =
    (looks_by (map remaining_of l.rows)
    ≡ then (each_member (λ i row. look_by row) l.row-index (map remaining_of (drop l.row-index l.rows)))
    (λ (zs : List (Option RowNow)). Ok (l.nows.items ++ zs)))
    × (vec_len l.nows ≡ l.row-index) × (vec_capacity l.nows ≡ vec_capacity l.fn.nows)
