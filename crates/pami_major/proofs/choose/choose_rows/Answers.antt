use Rattle.std.specs.Global.{Vec}
use Rattle.pami_chuzr.specs.Choice.{choice_script}
use Rattle.pami_chuzr.specs.declared.row.ChosenRow.{ChosenRow}
use Rattle.pami_major.proofs.Choices.{lent_few, lent_bounds, lent_weights, lent_at, named_so, choice_ok, choice_err}
use Rattle.pami_major.proofs.choose.choose_rows.Goals as goal

pub choose-requires-clause-places : goal.choose-requires-clause-places
choose-requires-clause-places c =
    lent_few c.args.form.now c.requires.ready.0 c.args.state.now c.as_slice-values.result.now c.args.form.now.kept c.requires.ready.1
    c.as_slice-values.ensures

pub choose-requires-clause-bounds_by_place : goal.choose-requires-clause-bounds_by_place
choose-requires-clause-bounds_by_place c =
    let at = lent_at c.args.form.now c.args.state.now c.in_ok-by_place.by_place.items c.deref.result.now c.as_slice.result.now c.as_slice-2.result.now
    c.deref.ensures.value c.in_ok-by_place.ensures c.as_slice.ensures c.as_slice-2.ensures in
    lent_bounds c.args.form.now c.requires.ready.0 c.args.state.now c.deref.result.now c.as_slice-values.result.now c.requires.ready.1 at
    c.as_slice-values.ensures

pub choose-requires-clause-weights_by_place : goal.choose-requires-clause-weights_by_place
choose-requires-clause-weights_by_place c =
    lent_weights c.args.form.now c.requires.ready.0 c.args.state.now c.as_slice-3.result.now c.as_slice-values.result.now c.requires.ready.1
    c.as_slice-3.ensures c.as_slice-values.ensures

pub returns-in-Ok : goal.returns-in-Ok
returns-in-Ok c = λ s fresh.
    let at = lent_at c.args.form.now c.args.state.now c.in_ok-by_place.by_place.items c.deref.result.now c.as_slice.result.now c.as_slice-2.result.now
    c.deref.ensures.value c.in_ok-by_place.ensures c.as_slice.ensures c.as_slice-2.ensures in
    choice_ok c.args.form.now c.requires.ready.0 c.args.state.now s c.args.most c.deref.result.now c.as_slice-values.result.now c.as_slice-3.result.now
    c.in-Ok.rows.items
    c.args.form.now.kept c.requires.ready.1 fresh at c.as_slice-values.ensures c.as_slice-3.ensures c.in-Ok.ensures.script

pub returns-in-Err-Named : goal.returns-in-Err-Named
returns-in-Err-Named c = λ s fresh.
    let at = lent_at c.args.form.now c.args.state.now c.in_ok-by_place.by_place.items c.deref.result.now c.as_slice.result.now c.as_slice-2.result.now
    c.deref.ensures.value c.in_ok-by_place.ensures c.as_slice.ensures c.as_slice-2.ensures in
    choice_err c.args.form.now c.requires.ready.0 c.args.state.now s c.args.most c.deref.result.now c.as_slice-values.result.now c.as_slice-3.result.now
    c.in-Err-Named.refused
    c.args.form.now.kept c.requires.ready.1 fresh at c.as_slice-values.ensures c.as_slice-3.ensures
    (named_so (λ (rows : Vec ChosenRow). rows.items) (choice_script c.deref.result.now c.as_slice-values.result.now c.as_slice-3.result.now c.args.most)
    c.in-Err-Named.field-0 c.in-Err-Named.refused c.in-Err-Named.ensures.script c.in-Err-Named.field-0-is)
