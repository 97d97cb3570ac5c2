use Rattle.std.proofs.Common.{length, sym, ap, ◌∙◌, subst, ◌<◌, ◌^◌}
use Rattle.pami_range.proofs.Whole.{bound_spans_are, bounds_ranged}
use Rattle.pami_range.proofs.Lent.{lengths_of, tall_lent, known_lent, regular_lent, bounds_lent}
use Rattle.pami_range.proofs.ranging.bound_spans.Goals as goal

pub bound_spans_by-requires-clause-columns : goal.bound_spans_by-requires-clause-columns
bound_spans_by-requires-clause-columns g c = ap length c.as_slice.ensures ∙ (lengths_of c.args.form.now c.args.state.now c.args.form.now.kept c.requires.optimal).bounds ∙ sym (ap length c.as_slice-2.ensures)

pub bound_spans_by-requires-clause-stands : goal.bound_spans_by-requires-clause-stands
bound_spans_by-requires-clause-stands g c = ap length c.as_slice-4.ensures ∙ (lengths_of c.args.form.now c.args.state.now c.args.form.now.kept c.requires.optimal).stands ∙ sym (ap length c.as_slice.ensures)

pub bound_spans_by-requires-clause-few : goal.bound_spans_by-requires-clause-few
bound_spans_by-requires-clause-few g c = subst (λ n. n < 2 ^ 32) (sym (ap length c.as_slice-3.ensures)) (lengths_of c.args.form.now c.args.state.now c.args.form.now.kept c.requires.optimal).rows

pub bound_spans_by-requires-clause-heights : goal.bound_spans_by-requires-clause-heights
bound_spans_by-requires-clause-heights g c = tall_lent c.args.form.now.columns c.as_slice.result.now c.args.state.now.head c.as_slice-3.result.now c.as_slice.ensures c.as_slice-3.ensures (lengths_of c.args.form.now c.args.state.now c.args.form.now.kept c.requires.optimal).tall

pub bound_spans_by-requires-clause-values : goal.bound_spans_by-requires-clause-values
bound_spans_by-requires-clause-values g c = ap length c.as_slice-5.ensures ∙ (lengths_of c.args.form.now c.args.state.now c.args.form.now.kept c.requires.optimal).values ∙ sym (ap length c.as_slice-3.ensures)

pub bound_spans_by-requires-clause-known : goal.bound_spans_by-requires-clause-known
bound_spans_by-requires-clause-known g c = known_lent (length c.args.form.now.columns) (length c.as_slice.result.now) c.args.state.now.head c.as_slice-3.result.now (ap length c.as_slice.ensures) c.as_slice-3.ensures (lengths_of c.args.form.now c.args.state.now c.args.form.now.kept c.requires.optimal).known

pub bound_spans_by-requires-clause-regular : goal.bound_spans_by-requires-clause-regular
bound_spans_by-requires-clause-regular g c = regular_lent c.args.form.now c.args.state.now c.as_slice.result.now c.as_slice-3.result.now c.args.form.now.kept c.requires.optimal c.as_slice.ensures c.as_slice-3.ensures

pub returns-clause-script : goal.returns-clause-script
returns-clause-script g c = λ s fresh.
    c.in_ok-spans.ensures
    ∙ bounds_lent c.args.form.now c.args.state.now c.as_slice.result.now c.as_slice-2.result.now c.as_slice-3.result.now c.as_slice-4.result.now c.as_slice-5.result.now
    c.as_slice.ensures c.as_slice-2.ensures c.as_slice-3.ensures c.as_slice-4.ensures c.as_slice-5.ensures
    ∙ bound_spans_are c.args.form.now c.args.state.now s c.args.form.now.kept c.requires.optimal fresh

pub returns-clause-ranges : goal.returns-clause-ranges
returns-clause-ranges g c =
    let o = c.requires.optimal in
    bounds_ranged c.args.form.now c.args.state.now c.in_ok-spans.spans.items c.args.form.now.kept c.requires.optimal
    (c.in_ok-spans.ensures
    ∙ bounds_lent c.args.form.now c.args.state.now c.as_slice.result.now c.as_slice-2.result.now c.as_slice-3.result.now c.as_slice-4.result.now c.as_slice-5.result.now
    c.as_slice.ensures c.as_slice-2.ensures c.as_slice-3.ensures c.as_slice-4.ensures c.as_slice-5.ensures
    ∙ bound_spans_are c.args.form.now c.args.state.now o.solved.fresh c.args.form.now.kept c.requires.optimal o.solved.solved)
