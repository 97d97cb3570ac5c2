use Rattle.pami_theory.specs.declared.words.Side.TheVariants.{Above, Below}
use Rattle.pami_range.proofs.Columns.{column_end, span_same}
use Rattle.pami_range.proofs.spans.members_span.Goals as goal

pub returns : goal.returns
returns c =
    let es = c.entries-entries.result.now in
    span_same c.bound_end.result c.bound_end-2.result _ _
    (column_end Below c.args.bounds.now c.args.head.now c.args.values.now c.args.column.now es c.args.own c.bound_end.result c.entries-entries.ensures c.bound_end.ensures)
    (column_end Above c.args.bounds.now c.args.head.now c.args.values.now c.args.column.now es c.args.own c.bound_end-2.result c.entries-entries.ensures c.bound_end-2.ensures)
