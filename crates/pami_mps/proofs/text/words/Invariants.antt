use Rattle.std.proofs.Common.{length, map}
use Rattle.pami_mps.proofs.Words.{Between}
use Rattle.pami_mps.proofs.text.words.Given as goal

abbrev pub invariant-loop-rest : goal.invariant-loop-rest
invariant-loop-rest l = Between (map (λ x. x.now) l.out.items) l.rest l.line

abbrev pub decreases-loop-rest : goal.decreases-loop-rest
decreases-loop-rest l = length l.rest
