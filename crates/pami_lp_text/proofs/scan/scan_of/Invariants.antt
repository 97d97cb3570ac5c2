use Rattle.std.proofs.Common.{◌≡◌, take}
use Rattle.pami_lp_text.specs.Scanning.{through}
use Rattle.pami_lp_text.specs.declared.kind.Scan.TheVariants.{Start}
use Rattle.pami_lp_text.proofs.scan.scan_of.Given as goal

abbrev pub invariant-loop-byte : goal.invariant-loop-byte
invariant-loop-byte l = l.scan ≡ through Start (take l.byte-index l.text)
