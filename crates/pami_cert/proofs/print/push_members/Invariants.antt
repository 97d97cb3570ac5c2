use Rattle.std.proofs.Common.{◌≡◌, ◌++◌, drop}
use Rattle.pami_linear.specs.Lists.{get}
use Rattle.pami_model.specs.Contents.{contents}
use Rattle.pami_lines.specs.Line.{text}
use Rattle.pami_lines.specs.Certificate.{named_lines}
use Rattle.pami_cert.specs.Part.{names, tag}
use Rattle.pami_cert.specs.CertLines.{member_lines}
use Rattle.pami_cert.proofs.print.push_members.Given as goal

abbrev pub invariant-loop-i : goal.invariant-loop-i
invariant-loop-i l =
    l.initial.out.items ++ text (member_lines (contents l.model) l.part l.values)
    ≡ l.out.items ++ text (named_lines (tag l.part) l.i (drop l.i (names (contents l.model) l.part)) (get l.values))
