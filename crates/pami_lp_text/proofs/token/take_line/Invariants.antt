use Rattle.std.proofs.Common.{length, ◌++◌, true}
use Rattle.pami_lp_text.specs.Lexeme.{marked, words_of}
use Rattle.pami_lp_text.specs.Told.{all_told}
use Rattle.pami_lp_text.proofs.Pieces.{Between}
use Rattle.pami_lp_text.proofs.token.take_line.Given as goal

abbrev pub invariant-loop-rest : goal.invariant-loop-rest
invariant-loop-rest l = Between (all_told l.out.items) l.number l.first l.rest (all_told l.fn.out.items ++ marked l.number true (words_of l.line))

abbrev pub decreases-loop-rest : goal.decreases-loop-rest
decreases-loop-rest l = length l.rest
