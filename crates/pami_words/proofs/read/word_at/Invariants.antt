use Rattle.std.proofs.Common.{◌≡◌, drop}
use Rattle.pami_words.specs.Words.{word_at}
use Rattle.pami_words.proofs.read.word_at.Given as goal

abbrev pub invariant-loop-item : goal.invariant-loop-item
invariant-loop-item l = word_at l.place l.items ≡ word_at l.before (drop l.item-index l.items)
