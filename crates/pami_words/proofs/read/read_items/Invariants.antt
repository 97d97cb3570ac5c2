use Rattle.std.proofs.Common.{◌≡◌, length}
use Rattle.pami_words.specs.Items.{items_of}
use Rattle.pami_words.specs.Fronts.{behind}
use Rattle.pami_words.proofs.read.read_items.Given as goal

abbrev pub invariant-loop-rest : goal.invariant-loop-rest
invariant-loop-rest l = items_of l.options l.words ≡ behind l.items.items (items_of l.options l.rest)

abbrev pub decreases-loop-rest : goal.decreases-loop-rest
decreases-loop-rest l = length l.rest
