use Rattle.std.proofs.Common.{get_or, sym, ap, ◌∙◌}
use Rattle.pami_lp_text.specs.declared.kind.Scan.{Scan}
use Rattle.pami_lp_text.specs.Scanning.{scanned}
use Rattle.pami_lp_text.proofs.Longest.{through_more}
use Rattle.pami_lp_text.proofs.scan.scan_of.Goals as goal

pub loop-byte-preserved : goal.loop-byte-preserved
loop-byte-preserved c = c.scanned-scan.ensures ∙ ap (λ (s : Scan). scanned s (get_or c.args.text.now c.loop-byte.byte-index 0)) c.loop-byte.invariant ∙ sym (through_more c.args.text.now c.loop-byte.byte-index 0 c.loop-byte-test.true)
