use Rattle.std.proofs.Common.{◌≡◌, drop}
use Rattle.pami_words.specs.Words.{first_value}
use Rattle.pami_words.proofs.read.first_value.Given as goal

abbrev pub invariant-loop-item : goal.invariant-loop-item
invariant-loop-item l = first_value l.option l.items ≡ first_value l.option (drop l.item-index l.items)
