use Rattle.std.proofs.Common.{◌≡◌, ◌++◌, drop}
use Rattle.pami_model.specs.Contents.{contents}
use Rattle.pami_model_form.specs.Named.{names_of}
use Rattle.pami_lines.specs.Line.{text}
use Rattle.pami_range.specs.RangeLines.{bound_lines}
use Rattle.pami_range.proofs.lines.push_bounds.Given as goal

abbrev pub invariant-loop-v : goal.invariant-loop-v
invariant-loop-v l =
    l.initial.out.items ++ text (bound_lines (names_of (contents l.model)) 0 l.spans)
    ≡ l.out.items ++ text (bound_lines (names_of (contents l.model)) l.v (drop l.v l.spans))
