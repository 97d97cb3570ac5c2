use Rattle.std.proofs.Common.{ap, map, ◌∙◌}
use Rattle.pami_theory.specs.Choice.{chosen}
use Rattle.pami_chuzr.specs.Choice.{chosen_row}
use Rattle.pami_form.specs.FormOf.{form_of}
use Rattle.pami_state.specs.State.{basis_of}
use Rattle.pami_batch.proofs.StartedStates.{lent_few, lent_bounds, lent_weights, lent_at, lent_places}
use Rattle.pami_batch.proofs.drawn_tests.chosen_rows.Goals as goal

pub choose-requires-clause-places : goal.choose-requires-clause-places
choose-requires-clause-places c =
    lent_few c.args.form.now c.args.state.now c.as_slice-values.result.now c.args.form.now.kept c.requires c.as_slice-values.ensures

pub choose-requires-clause-bounds_by_place : goal.choose-requires-clause-bounds_by_place
choose-requires-clause-bounds_by_place c =
    let at = lent_at c.args.form.now c.args.state.now c.in_ok-by_place.by_place.items c.deref.result.now c.as_slice.result.now c.as_slice-2.result.now
    c.deref.ensures.value c.in_ok-by_place.ensures c.as_slice.ensures c.as_slice-2.ensures in
    lent_bounds c.args.form.now c.args.state.now c.deref.result.now c.as_slice-values.result.now c.requires at c.as_slice-values.ensures

pub choose-requires-clause-weights_by_place : goal.choose-requires-clause-weights_by_place
choose-requires-clause-weights_by_place c =
    lent_weights c.args.form.now c.args.state.now c.as_slice-3.result.now c.as_slice-values.result.now c.requires c.as_slice-3.ensures c.as_slice-values.ensures

pub returns-in-Ok : goal.returns-in-Ok
returns-in-Ok c = λ t fresh.
    let at = lent_at c.args.form.now c.args.state.now c.in_ok-by_place.by_place.items c.deref.result.now c.as_slice.result.now c.as_slice-2.result.now
    c.deref.ensures.value c.in_ok-by_place.ensures c.as_slice.ensures c.as_slice-2.ensures in
    c.in-Ok.ensures.rows (form_of c.args.form.now) (basis_of c.args.state.now) t
    (lent_places c.args.form.now c.args.state.now t c.deref.result.now c.as_slice-values.result.now c.args.form.now.kept c.requires fresh at c.as_slice-values.ensures)
    ∙ ap (λ ws. map chosen_row (chosen (form_of c.args.form.now) (basis_of c.args.state.now) t ws c.args.most)) c.as_slice-3.ensures
