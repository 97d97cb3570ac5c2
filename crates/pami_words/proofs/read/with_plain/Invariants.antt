use Rattle.std.proofs.Common.{◌≡◌, drop}
use Rattle.pami_words.specs.Items.{all_plain}
use Rattle.pami_words.specs.Fronts.{behind}
use Rattle.pami_words.proofs.read.with_plain.Given as goal

abbrev pub invariant-loop-word : goal.invariant-loop-word
invariant-loop-word l = behind l.initial.items.items (all_plain l.words) ≡ behind l.items.items (all_plain (drop l.word-index l.words))
