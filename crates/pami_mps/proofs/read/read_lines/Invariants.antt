use Rattle.std.proofs.Common.{◌≡◌}
use Rattle.pami_mps.specs.Line.{text_lines}
use Rattle.pami_mps.specs.Reader.{seen_by_reader}
use Rattle.pami_mps.proofs.Lines.{Open}
use Rattle.pami_mps.proofs.read.read_lines.Given as goal

abbrev pub invariant-loop-line : goal.invariant-loop-line
invariant-loop-line l = Open (text_lines l.bytes) l.line-index (seen_by_reader l.reader) × (l.number ≡ l.line-index)
