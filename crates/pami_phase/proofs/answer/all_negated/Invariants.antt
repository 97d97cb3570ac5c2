use Rattle.std.proofs.Common.{◌≡◌, map, take}
use Rattle.pami_algebra.specs.Operations.{neg_f}
use Rattle.pami_phase.proofs.answer.all_negated.Given as goal

abbrev pub invariant-loop-number : goal.invariant-loop-number
invariant-loop-number l = l.out.items ≡ map neg_f (take l.number-index l.numbers)
