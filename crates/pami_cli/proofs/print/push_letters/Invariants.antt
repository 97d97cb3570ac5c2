use Rattle.std.proofs.Common.{◌≡◌, ◌++◌, map, take}
use Rattle.pami_lines.specs.Letters.{letter}
use Rattle.pami_cli.proofs.print.push_letters.Given as goal

abbrev pub invariant-loop-stand : goal.invariant-loop-stand
invariant-loop-stand l = l.out.items ≡ l.initial.out.items ++ map letter (take l.stand-index l.stands)
