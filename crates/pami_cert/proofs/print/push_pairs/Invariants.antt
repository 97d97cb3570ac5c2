use Rattle.std.proofs.Common.{◌≡◌, ◌++◌, drop, map}
use Rattle.pami_linear.specs.Lists.{get}
use Rattle.pami_model.specs.Contents.{contents}
use Rattle.pami_lines.specs.Line.{text}
use Rattle.pami_lines.specs.Certificate.{valued_from, valued_line}
use Rattle.pami_cert.specs.Part.{names, tag}
use Rattle.pami_cert.specs.CertLines.{pair_lines}
use Rattle.pami_cert.proofs.print.push_pairs.Given as goal

abbrev pub invariant-loop-i : goal.invariant-loop-i
invariant-loop-i l =
    l.initial.out.items ++ text (pair_lines (contents l.model) l.part l.values l.reduced)
    ≡ l.out.items ++ text (map (valued_line (tag l.part)) (valued_from l.i (drop l.i (names (contents l.model) l.part)) (get l.values) (get l.reduced)))
