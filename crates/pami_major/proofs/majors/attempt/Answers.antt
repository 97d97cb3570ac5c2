use Rattle.std.proofs.Common.{refl, sym, ap, ◌∙◌, map, ◌-◌, arith}
use Rattle.std.proofs.lemmas.Result.{err_from_is_err_and}
use Rattle.pami_chuzr.specs.declared.row.ChosenRow.{ChosenRow}
use Rattle.pami_major.proofs.Runs.{are_chosen, begin_follows, unfit_follows, openable, can_take, taken_follows, few_steps}
use Rattle.pami_major.specs.MostSteps.{rows_chosen}
use Rattle.pami_major.proofs.Steps.{fault_steps, short_steps, taken_steps}
use Rattle.pami_major.proofs.majors.attempt.Goals as goal

pub returns-in_err-chosen-clause-came : goal.returns-in_err-chosen-clause-came
returns-in_err-chosen-clause-came g c = λ number h k.
    let p = err_from_is_err_and c.from_residual.result c.from_residual.ensures.1 in
    begin_follows c.args.form.now c.args.options.now number c.args.mode c.args.state.now h c.most_rows.result c.from_residual.result p.0
    c.in_err-chosen.field-0.0
    c.requires.due c.most_rows.ensures c.in_err-chosen.ensures p.1 p.2

pub returns-in_err-used-clause-came : goal.returns-in_err-used-clause-came
returns-in_err-used-clause-came g c = λ number h k.
    let p = err_from_is_err_and c.from_residual-in_err-used.result c.from_residual-in_err-used.ensures.1 in
    let chosen = are_chosen c.args.form.now c.args.options.now c.args.mode c.args.state.now c.in_ok-chosen.chosen.items c.in_ok-chosen.chosen.items
    c.most_rows.result
    c.most_rows.ensures refl c.in_ok-chosen.ensures in
    unfit_follows _ c.args.form.now c.args.options.now number c.args.mode c.args.state.now h c.args.factor c.in_ok-chosen.chosen.items
    c.from_residual-in_err-used.result
    p.0 c.in_err-used.field-0.0 c.requires.due chosen k c.in_err-used.ensures.refused p.1 p.2

pub run_batch-requires-clause-openable : goal.run_batch-requires-clause-openable
run_batch-requires-clause-openable g c =
    let chosen = are_chosen c.args.form.now c.args.options.now c.args.mode c.args.state.now c.in_ok-chosen.chosen.items c.in_ok-chosen.chosen.items
    c.most_rows.result
    c.most_rows.ensures refl c.in_ok-chosen.ensures in
    openable c.args.form.now c.args.options.now c.args.mode c.args.state.now c.in_ok-chosen.chosen.items c.deref.result.now
    (c.args.options.now.limit - c.args.state.now.pivots) c.requires.due chosen c.deref.ensures.value refl

pub returns-in_err-outcome-clause-few : goal.returns-in_err-outcome-clause-few
returns-in_err-outcome-clause-few g c =
    let chosen = are_chosen c.args.form.now c.args.options.now c.args.mode c.args.state.now c.in_ok-chosen.chosen.items c.deref.result.now c.most_rows.result
    c.most_rows.ensures c.deref.ensures.value c.in_ok-chosen.ensures in
    few_steps c.args.form.now c.args.options.now c.args.mode c.args.state.now c.deref.result.now c.args.steps.now.count c.ready_factor.new.steps.count
    c.run_batch.new.steps.count c.requires.due chosen c.in_err-outcome.ensures.few c.in_ok-used.ensures.counted

pub returns-in_err-places-clause-few : goal.returns-in_err-places-clause-few
returns-in_err-places-clause-few g c =
    let chosen = are_chosen c.args.form.now c.args.options.now c.args.mode c.args.state.now c.in_ok-chosen.chosen.items c.deref.result.now c.most_rows.result
    c.most_rows.ensures c.deref.ensures.value c.in_ok-chosen.ensures in
    few_steps c.args.form.now c.args.options.now c.args.mode c.args.state.now c.deref.result.now c.args.steps.now.count c.ready_factor.new.steps.count
    c.run_batch.new.steps.count c.requires.due chosen c.in_ok-outcome.ensures.few c.in_ok-used.ensures.counted

pub take_outcome-requires : goal.take_outcome-requires
take_outcome-requires g c =
    let chosen = are_chosen c.args.form.now c.args.options.now c.args.mode c.args.state.now c.in_ok-chosen.chosen.items c.deref.result.now c.most_rows.result
    c.most_rows.ensures c.deref.ensures.value c.in_ok-chosen.ensures in
    let known = c.in_ok-used.ensures.known in
    record {
      pivots = can_take c.args.form.now c.args.options.now c.args.mode c.args.state.now known.0 c.in_ok-used.used c.deref.result.now
          (c.args.options.now.limit - c.args.state.now.pivots) c.in_ok-outcome.outcome c.requires.due chosen known.1 c.in_ok-used.ensures.few refl
          c.in_ok-outcome.ensures.outcome;
    }

pub returns-clause-came : goal.returns-clause-came
returns-clause-came g c = λ number h k.
    let chosen = are_chosen c.args.form.now c.args.options.now c.args.mode c.args.state.now c.in_ok-chosen.chosen.items c.deref.result.now c.most_rows.result
    c.most_rows.ensures c.deref.ensures.value c.in_ok-chosen.ensures in
    taken_follows c.args.form.now c.args.options.now number c.args.mode c.args.state.now h c.in_ok-used.used c.deref.result.now
    (c.args.options.now.limit - c.args.state.now.pivots) c.in_ok-outcome.outcome c.in_ok-places.places c.take_outcome.result c.requires.due chosen
    (c.in_ok-used.ensures.used h k) refl c.in_ok-outcome.ensures.outcome
    (c.in_ok-places.ensures ∙ ap (map (λ (row : ChosenRow). row.place)) (c.deref-2.ensures.value ∙ sym c.deref.ensures.value)) c.take_outcome.ensures

pub returns-clause-few : goal.returns-clause-few
returns-clause-few g c =
    let chosen = are_chosen c.args.form.now c.args.options.now c.args.mode c.args.state.now c.in_ok-chosen.chosen.items c.deref.result.now c.most_rows.result
    c.most_rows.ensures c.deref.ensures.value c.in_ok-chosen.ensures in
    few_steps c.args.form.now c.args.options.now c.args.mode c.args.state.now c.deref.result.now c.args.steps.now.count c.ready_factor.new.steps.count
    c.run_batch.new.steps.count c.requires.due chosen c.in_ok-outcome.ensures.few c.in_ok-used.ensures.counted

-- ---- the steps
pub returns-in_err-chosen-clause-counted : goal.returns-in_err-chosen-clause-counted
returns-in_err-chosen-clause-counted g c = λ s fresh. omega arith

pub returns-in_err-used-clause-counted : goal.returns-in_err-used-clause-counted
returns-in_err-used-clause-counted g c = λ s fresh.
    let p = err_from_is_err_and c.from_residual-in_err-used.result c.from_residual-in_err-used.ensures.1 in
    let one = c.in_err-used.ensures.counted in
    fault_steps (rows_chosen c.args.form.now c.args.options.now c.args.mode c.args.state.now s) c.args.steps.now.count c.ready_factor.new.steps.count
    c.from_residual-in_err-used.result p.0 p.1 (omega (arith, one))

pub returns-in_err-outcome-clause-counted : goal.returns-in_err-outcome-clause-counted
returns-in_err-outcome-clause-counted g c =
    let chosen = are_chosen c.args.form.now c.args.options.now c.args.mode c.args.state.now c.in_ok-chosen.chosen.items c.deref.result.now c.most_rows.result
    c.most_rows.ensures c.deref.ensures.value c.in_ok-chosen.ensures in
    let p = err_from_is_err_and c.from_residual-in_err-outcome.result c.from_residual-in_err-outcome.ensures.1 in
    short_steps c.args.form.now c.args.options.now c.args.mode c.args.state.now c.deref.result.now c.from_residual-in_err-outcome.result p.0
    c.args.steps.now.count c.ready_factor.new.steps.count c.run_batch.new.steps.count chosen p.1 c.in_ok-used.ensures.counted c.in_err-outcome.ensures.few

pub returns-in_err-places-clause-counted : goal.returns-in_err-places-clause-counted
returns-in_err-places-clause-counted g c =
    let chosen = are_chosen c.args.form.now c.args.options.now c.args.mode c.args.state.now c.in_ok-chosen.chosen.items c.deref.result.now c.most_rows.result
    c.most_rows.ensures c.deref.ensures.value c.in_ok-chosen.ensures in
    let p = err_from_is_err_and c.from_residual-in_err-places.result c.from_residual-in_err-places.ensures.1 in
    short_steps c.args.form.now c.args.options.now c.args.mode c.args.state.now c.deref.result.now c.from_residual-in_err-places.result p.0
    c.args.steps.now.count c.ready_factor.new.steps.count c.run_batch.new.steps.count chosen p.1 c.in_ok-used.ensures.counted c.in_ok-outcome.ensures.few

pub returns-clause-counted : goal.returns-clause-counted
returns-clause-counted g c =
    let chosen = are_chosen c.args.form.now c.args.options.now c.args.mode c.args.state.now c.in_ok-chosen.chosen.items c.deref.result.now c.most_rows.result
    c.most_rows.ensures c.deref.ensures.value c.in_ok-chosen.ensures in
    let known = c.in_ok-used.ensures.known in
    taken_steps c.args.form.now c.args.options.now c.args.mode c.args.state.now known.0 c.in_ok-used.used c.deref.result.now
    (c.args.options.now.limit - c.args.state.now.pivots) c.in_ok-outcome.outcome c.in_ok-places.places c.take_outcome.result
    c.args.steps.now.count c.ready_factor.new.steps.count c.run_batch.new.steps.count c.requires.due chosen known.1 c.in_ok-outcome.ensures.outcome
    (c.in_ok-places.ensures ∙ ap (map (λ (row : ChosenRow). row.place)) (c.deref-2.ensures.value ∙ sym c.deref.ensures.value)) c.take_outcome.ensures
    c.in_ok-used.ensures.counted c.in_ok-outcome.ensures.counted c.in_ok-outcome.ensures.few
