use Rattle.pami_edge.specs.Lines.{lines_of}
use Rattle.pami_lp_text.specs.Told.{all_told}
use Rattle.pami_lp_text.proofs.Pieces.{Lined}
use Rattle.pami_lp_text.proofs.token.tokens.Given as goal

abbrev pub invariant-loop-i : goal.invariant-loop-i
invariant-loop-i l = Lined (all_told l.out.items) l.i (lines_of l.bytes)
