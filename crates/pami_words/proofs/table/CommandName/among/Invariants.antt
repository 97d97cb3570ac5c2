use Rattle.std.proofs.Common.{◌≡◌, drop}
use Rattle.pami_words.specs.Table.{command_named}
use Rattle.pami_words.proofs.table.CommandName.among.Given as goal

abbrev pub invariant-loop-command : goal.invariant-loop-command
invariant-loop-command l = command_named l.commands l.word ≡ command_named (drop l.command-index l.commands) l.word
