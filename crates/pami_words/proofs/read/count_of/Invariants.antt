use Rattle.std.proofs.Common.{◌≡◌, ◌≤◌, ◌+◌, length, drop}
use Rattle.pami_words.specs.Words.{values_of}
use Rattle.pami_words.proofs.read.count_of.Given as goal

abbrev pub invariant-loop-item : goal.invariant-loop-item
invariant-loop-item l =
    (l.count ≤ l.item-index) × (length (values_of l.option l.items) ≡ l.count + length (values_of l.option (drop l.item-index l.items)))
