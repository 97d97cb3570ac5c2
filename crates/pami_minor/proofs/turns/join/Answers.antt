use Rattle.std.proofs.Common.{◌+◌, ◌++◌, drop, List, sym, ap, ◌∙◌}
use Rattle.pami_frac.specs.declared.list.Entry.{Entry}
use Rattle.pami_minor.specs.Joined.{joined}
use Rattle.pami_minor.proofs.Slices.{join_more, join_ends}
use Rattle.pami_minor.proofs.turns.join.Goals as goal

pub loop-slice-preserved : goal.loop-slice-preserved
loop-slice-preserved c =
    join_more c.args.slices.now c.loop-slice.slice-index c.slice-item.result c.loop-slice.row.items c.loop-slice-test.true c.slice-item.is c.loop-slice.invariant
    ∙ ap (λ (es : List Entry). es ++ joined (drop (c.loop-slice.slice-index + 1) c.args.slices.now))
    (sym (c.in_ok-extend_from_slice.ensures.items ∙ ap (λ (s : List Entry). c.loop-slice.row.items ++ s) c.as_slice.ensures))

pub returns : goal.returns
returns c = join_ends c.args.slices.now c.loop-slice.slice-index c.loop-slice.row.items c.loop-slice-test.false c.loop-slice.invariant
