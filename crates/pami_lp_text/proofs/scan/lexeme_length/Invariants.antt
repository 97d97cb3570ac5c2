use Rattle.pami_lp_text.proofs.Longest.{So}
use Rattle.pami_lp_text.proofs.scan.lexeme_length.Given as goal

abbrev pub invariant-loop-i : goal.invariant-loop-i
invariant-loop-i l = So l.bytes l.i l.scan l.best
