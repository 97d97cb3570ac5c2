use Rattle.std.proofs.Common.{◌≡◌, ◌++◌, drop}
use Rattle.pami_model.specs.Contents.{contents}
use Rattle.pami_model_form.specs.Named.{names_of}
use Rattle.pami_lines.specs.Line.{text}
use Rattle.pami_range.specs.RangeLines.{cost_lines}
use Rattle.pami_range.proofs.lines.push_costs.Given as goal

abbrev pub invariant-loop-j : goal.invariant-loop-j
invariant-loop-j l =
    l.initial.out.items ++ text (cost_lines (contents l.model).sense (names_of (contents l.model)).columns 0 l.spans)
    ≡ l.out.items ++ text (cost_lines (contents l.model).sense (names_of (contents l.model)).columns l.j (drop l.j l.spans))
