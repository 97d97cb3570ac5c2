use Rattle.std.proofs.Common.{◌≡◌, drop, length, set, replicate}
use lib.IntN.{pos}
use Rattle.pami_algebra.specs.Operations.{of_int}
use Rattle.pami_linear.specs.Lists.{get}
use Rattle.pami_script.specs.Dense.{dense}
use Rattle.pami_lu.specs.Plain.{plain_rows}
use Rattle.pami_lu.specs.Members.{AreOthers}
use Rattle.pami_lu.proofs.Turns.{InTurn}
use Rattle.pami_lu.proofs.reduce.reduce_rows.Given as goal

abbrev pub invariant-loop-h : goal.invariant-loop-h
invariant-loop-h l =
    (plain_rows l.below l.place (get l.kept l.place) (set l.kept l.place (of_int (pos 0))) l.fn.rows.items (replicate (length l.kept) (of_int (pos 0)))
    ≡ plain_rows (drop l.h-index l.below) l.place (get l.kept l.place) (set l.kept l.place (of_int (pos 0))) l.rows.items (dense (length l.kept) l.multipliers.items))
    × (length l.rows.items ≡ length l.kept)
    × (length l.members.items ≡ length l.kept)
    × InTurn (length l.kept) l.rows.items l.multipliers.items (drop l.h-index l.below)
    × AreOthers l.place l.rows.items l.members.items
