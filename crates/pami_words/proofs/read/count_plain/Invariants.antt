use Rattle.std.proofs.Common.{◌≡◌, ◌≤◌, ◌+◌, length, drop}
use Rattle.pami_words.specs.Words.{plain_words}
use Rattle.pami_words.proofs.read.count_plain.Given as goal

abbrev pub invariant-loop-item : goal.invariant-loop-item
invariant-loop-item l = (l.count ≤ l.item-index) × (length (plain_words l.items) ≡ l.count + length (plain_words (drop l.item-index l.items)))
