use Rattle.std.proofs.Common.{◌≡◌, drop}
use Rattle.pami_words.specs.Table.{option_named}
use Rattle.pami_words.proofs.table.OptionName.among.Given as goal

abbrev pub invariant-loop-option : goal.invariant-loop-option
invariant-loop-option l = option_named l.options l.word ≡ option_named (drop l.option-index l.options) l.word
