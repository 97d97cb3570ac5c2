use Rattle.std.proofs.Common.{◌≡◌, ◌++◌, map, take, slice_index_or}
use Rattle.pami_theory.specs.Step.{flipped}
use Rattle.pami_theory.specs.declared.words.Stand.TheVariants.{Zero}
use Rattle.pami_log.specs.declared.event.Move.TheVariants as moves
use Rattle.pami_batch.proofs.minors_turn.note_flips.Given as goal

abbrev pub invariant-loop-v : goal.invariant-loop-v
invariant-loop-v l =
    l.moves.items ≡ l.fn.moves.items ++ map (λ v. moves.Flipped v (flipped (slice_index_or l.stands v Zero))) (take l.v-index l.flips)
