use Rattle.std.proofs.Common.{◌≡◌, ◌++◌, take, drop}
use Rattle.pami_theory.specs.Order.{put_in}
use Rattle.pami_chuzr.specs.Choice.{is_before}
use Rattle.pami_chuzr.proofs.ranking.index_for.Given as goal

abbrev pub invariant-loop-i : goal.invariant-loop-i
invariant-loop-i l = put_in is_before l.row l.rows ≡ take l.i l.rows ++ put_in is_before l.row (drop l.i l.rows)
