use Rattle.std.proofs.Common.{sym, ◌∙◌, true, false}
use Rattle.pami_lp_text.proofs.Longest.{goes, ends_dead}
use Rattle.pami_lp_text.proofs.scan.lexeme_length.Goals as goal
use Rattle.pami_lp_text.proofs.scan.lexeme_length.Goals.{then-is_whole, else-is_whole}

pub returns-in-Dead : goal.returns-in-Dead
returns-in-Dead c = ends_dead c.args.bytes.now c.loop-i.i c.loop-i.scan 0 c.loop-i.best c.loop-i.invariant c.loop-i-test.true (sym c.in-Dead.is ∙ c.scanned-scan.ensures)

pub loop-i-preserved : goal.loop-i-preserved
loop-i-preserved c = elim c.if-is_whole.branch [
  | then-is_whole w ↦ goes c.args.bytes.now c.loop-i.i c.loop-i.scan c.scanned-scan.result 0 c.loop-i.best true c.if-is_whole.best c.loop-i.invariant c.loop-i-test.true c.scanned-scan.ensures (sym c.is_whole.ensures ∙ w.if-is_whole.true) w.best-is
  | else-is_whole w ↦ goes c.args.bytes.now c.loop-i.i c.loop-i.scan c.scanned-scan.result 0 c.loop-i.best false c.if-is_whole.best c.loop-i.invariant c.loop-i-test.true c.scanned-scan.ensures (sym c.is_whole.ensures ∙ w.if-is_whole.false) w.best-is
]
