use Rattle.std.proofs.Common.{◌≡◌, ◌++◌, take}
use Rattle.pami_log.specs.Events.{drops}
use Rattle.pami_batch.proofs.minors_turn.note_drops.Given as goal

abbrev pub invariant-loop-place : goal.invariant-loop-place
invariant-loop-place l = l.moves.items ≡ l.fn.moves.items ++ drops (take l.place-index l.places)
