use Rattle.std.proofs.Common.{length, ap, ◌∙◌}
use Rattle.pami_range.proofs.CostSpans.{cost_spans_are, costs_ranged}
use Rattle.pami_range.proofs.Lent.{lengths_of, known_lent, regular_lent, cost_lists_of, costs_lent}
use Rattle.pami_range.proofs.ranging.cost_spans.Goals as goal

pub cost_spans_by-requires-clause-lists : goal.cost_spans_by-requires-clause-lists
cost_spans_by-requires-clause-lists g c = cost_lists_of c.args.form.now c.args.state.now _ c.args.form.now.kept c.requires.optimal (record {
  columns_are = c.as_slice.ensures;
  rows_are = c.args.form.now.turned;
  bounds_are = c.as_slice-2.ensures;
  costs_are = c.as_slice-3.ensures;
  head_is = c.as_slice-4.ensures;
  stands_are = c.as_slice-5.ensures;
  reduced_are = c.as_slice-6.ensures;
})

pub cost_spans_by-requires-clause-known : goal.cost_spans_by-requires-clause-known
cost_spans_by-requires-clause-known g c = known_lent (length c.args.form.now.columns) (length c.as_slice.result.now) c.args.state.now.head c.as_slice-4.result.now (ap length c.as_slice.ensures) c.as_slice-4.ensures (lengths_of c.args.form.now c.args.state.now c.args.form.now.kept c.requires.optimal).known

pub cost_spans_by-requires-clause-regular : goal.cost_spans_by-requires-clause-regular
cost_spans_by-requires-clause-regular g c = regular_lent c.args.form.now c.args.state.now c.as_slice.result.now c.as_slice-4.result.now c.args.form.now.kept c.requires.optimal c.as_slice.ensures c.as_slice-4.ensures

pub returns-clause-script : goal.returns-clause-script
returns-clause-script g c = λ s fresh.
    c.in_ok-spans.ensures
    ∙ costs_lent c.args.form.now c.args.state.now c.as_slice.result.now c.as_slice-2.result.now c.as_slice-3.result.now c.as_slice-4.result.now c.as_slice-5.result.now c.as_slice-6.result.now
    c.as_slice.ensures c.as_slice-2.ensures c.as_slice-3.ensures c.as_slice-4.ensures c.as_slice-5.ensures c.as_slice-6.ensures
    ∙ cost_spans_are c.args.form.now c.args.state.now s c.args.form.now.kept c.requires.optimal fresh

pub returns-clause-ranges : goal.returns-clause-ranges
returns-clause-ranges g c =
    let o = c.requires.optimal in
    costs_ranged c.args.form.now c.args.state.now c.in_ok-spans.spans.items c.args.form.now.kept c.requires.optimal
    (c.in_ok-spans.ensures
    ∙ costs_lent c.args.form.now c.args.state.now c.as_slice.result.now c.as_slice-2.result.now c.as_slice-3.result.now c.as_slice-4.result.now c.as_slice-5.result.now c.as_slice-6.result.now
    c.as_slice.ensures c.as_slice-2.ensures c.as_slice-3.ensures c.as_slice-4.ensures c.as_slice-5.ensures c.as_slice-6.ensures
    ∙ cost_spans_are c.args.form.now c.args.state.now o.solved.fresh c.args.form.now.kept c.requires.optimal o.solved.solved)
