use Rattle.std.proofs.Common.{take}
use Rattle.std.specs.List.{All}
use Rattle.pami_cert.specs.CertText.{lines_in}
use Rattle.pami_cert.specs.Read.{BeginsNone}
use Rattle.pami_cert.proofs.text.Text.head.Given as goal

abbrev pub invariant-loop-at : goal.invariant-loop-at
invariant-loop-at l = All BeginsNone (take l.at (lines_in l.self.bytes.now))
