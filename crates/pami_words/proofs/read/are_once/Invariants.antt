use Rattle.std.proofs.Common.{◌≡◌, drop}
use Rattle.pami_words.specs.Words.{are_once}
use Rattle.pami_words.proofs.read.are_once.Given as goal

abbrev pub invariant-loop-option : goal.invariant-loop-option
invariant-loop-option l = are_once l.options l.items ≡ are_once (drop l.option-index l.options) l.items
