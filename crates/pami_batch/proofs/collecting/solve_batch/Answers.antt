use Rattle.std.proofs.Common.{◌≡◌, ◌∙◌, ap, sym, subst, length, None, Err}
use Rattle.std.specs.List.{All}
use Rattle.std.proofs.lemmas.Result.{err_from_is_err_and}
use Rattle.pami_method.specs.Task.{refusal}
use Rattle.pami_method.specs.declared.words.Spot.TheVariants.{Flips, Values}
use Rattle.pami_method.specs.Work.{collect_tasks, first_refused, refused_or}
use Rattle.pami_deferral.specs.Listed.{collect_script}
use Rattle.pami_vec.specs.declared.step.Step.{Step}
use Rattle.pami_vec.specs.Pivots.{column_pivots}
use Rattle.pami_collect.specs.Exchanges.{exchanges_of}
use Rattle.pami_form.specs.FormOf.{form_of}
use Rattle.pami_batch.proofs.BatchSteps.{steps_long}
use Rattle.pami_batch.proofs.ColumnTasks.{follows_placed}
use Rattle.pami_batch.proofs.FlipTasks.{flips_long, flips_by, flips_refusal}
use Rattle.pami_batch.proofs.CollectTasks.{gather, follows_columns, follows_transforms, flips_stop, values_left, values_script_is, values_exact}
use Rattle.pami_batch.proofs.CollectTasks.{ask_flips, ask_as_many, ask_columns, ask_places, ask_pivots}
use Rattle.pami_batch.proofs.collecting.solve_batch.Goals as goal

pub returns-in_err-columns-clause-refused : goal.returns-in_err-columns-clause-refused
returns-in_err-columns-clause-refused g c = λ b begins has is.
    let p = err_from_is_err_and c.from_residual.result c.from_residual.ensures.1 in
    follows_columns (form_of c.args.form.now) b c.in_err-columns.field-0.0 c.from_residual.result (p.1 ∙ ap Err p.2) (c.in_err-columns.ensures.refused b has is)

pub solve_flips-requires-clause-flips : goal.solve_flips-requires-clause-flips
solve_flips-requires-clause-flips g c =
    let b = c.requires.batch.0 in
    subst (λ n. All (λ (s : Step). length s.flip_column ≡ n) c.args.steps.now) (sym c.args.form.now.kept.tall)
    (flips_long (form_of c.args.form.now) b.minors c.args.steps.now c.requires.batch.2.steps_are)

pub solve_flips-requires-clause-rows : goal.solve_flips-requires-clause-rows
solve_flips-requires-clause-rows g c =
    let b = c.requires.batch.0 in
    steps_long (form_of c.args.form.now) b.history b.first.basis c.args.factor.now c.requires.batch.3 ∙ sym c.args.form.now.kept.tall

pub returns-in-Err-clause-refused : goal.returns-in-Err-clause-refused
returns-in-Err-clause-refused g c = λ b begins has is.
    let f = form_of c.args.form.now in
    follows_placed (flips_by c.args.factor.now c.args.steps.now c.args.form.now.rows) c.in-Err.fault Flips
    (first_refused (collect_tasks f b.history b.first b.minors)) c.fault_at.result c.in-Err.ensures.script c.fault_at.ensures
    (λ r h. flips_stop f b r (c.in_ok-columns.ensures.refused b has is)
    (flips_refusal (form_of c.args.form.now) b c.args.steps.now c.args.factor.now c.args.form.now.rows has is c.args.form.now.kept.tall ∙ ap refusal h))

pub returns-in_err-pivots-clause-refused : goal.returns-in_err-pivots-clause-refused
returns-in_err-pivots-clause-refused g c = λ b begins has is.
    let f = form_of c.args.form.now in
    let p = err_from_is_err_and c.from_residual-in_err-pivots.result c.from_residual-in_err-pivots.ensures.1 in
    follows_transforms f b c.in_err-pivots.field-0.0 c.from_residual-in_err-pivots.result (c.in_ok-columns.ensures.refused b has is)
    (flips_refusal (form_of c.args.form.now) b c.args.steps.now c.args.factor.now c.args.form.now.rows has is c.args.form.now.kept.tall
    ∙ ap refusal c.in-Ok.ensures.script) (p.1 ∙ ap Err p.2)
    (c.in_err-pivots.ensures.refused f b has (c.deref.ensures.value ∙ c.in_ok-columns.ensures.columns b has is))

pub collect_values-requires-clause-flips : goal.collect_values-requires-clause-flips
collect_values-requires-clause-flips g c =
    let b = c.requires.batch.0 in
    let begins = c.requires.batch.1 in
    let has = c.requires.batch.2 in
    let is = c.requires.batch.3 in
    ask_flips (form_of c.args.form.now) b c.args.steps.now c.as_slice-before.result.now c.in-Ok.flips c.deref-2.result.now c.deref-3.result.now
    (gather (form_of c.args.form.now) b c.args.steps.now c.args.state.now c.args.factor.now c.args.form.now.rows
    c.as_slice-before.result.now c.in-Ok.flips c.deref-2.result.now c.deref-3.result.now c.requires.solved begins has is c.args.form.now.kept.tall
    c.as_slice-before.ensures c.in-Ok.ensures.script (c.deref-2.ensures.value ∙ c.in_ok-columns.ensures.columns b has is)
    (ap column_pivots c.deref-3.ensures.value ∙ c.in_ok-pivots.ensures.pivots (form_of c.args.form.now) b has
    (c.deref.ensures.value ∙ c.in_ok-columns.ensures.columns b has is)))

pub collect_values-requires-clause-as_many : goal.collect_values-requires-clause-as_many
collect_values-requires-clause-as_many g c =
    let b = c.requires.batch.0 in
    let begins = c.requires.batch.1 in
    let has = c.requires.batch.2 in
    let is = c.requires.batch.3 in
    ask_as_many (form_of c.args.form.now) b c.args.steps.now c.as_slice-before.result.now c.in-Ok.flips c.deref-2.result.now c.deref-3.result.now
    (gather (form_of c.args.form.now) b c.args.steps.now c.args.state.now c.args.factor.now c.args.form.now.rows
    c.as_slice-before.result.now c.in-Ok.flips c.deref-2.result.now c.deref-3.result.now c.requires.solved begins has is c.args.form.now.kept.tall
    c.as_slice-before.ensures c.in-Ok.ensures.script (c.deref-2.ensures.value ∙ c.in_ok-columns.ensures.columns b has is)
    (ap column_pivots c.deref-3.ensures.value ∙ c.in_ok-pivots.ensures.pivots (form_of c.args.form.now) b has
    (c.deref.ensures.value ∙ c.in_ok-columns.ensures.columns b has is)))

pub collect_values-requires-clause-columns : goal.collect_values-requires-clause-columns
collect_values-requires-clause-columns g c =
    let b = c.requires.batch.0 in
    let begins = c.requires.batch.1 in
    let has = c.requires.batch.2 in
    let is = c.requires.batch.3 in
    ask_columns (form_of c.args.form.now) b c.args.steps.now c.as_slice-before.result.now c.in-Ok.flips c.deref-2.result.now c.deref-3.result.now
    (gather (form_of c.args.form.now) b c.args.steps.now c.args.state.now c.args.factor.now c.args.form.now.rows
    c.as_slice-before.result.now c.in-Ok.flips c.deref-2.result.now c.deref-3.result.now c.requires.solved begins has is c.args.form.now.kept.tall
    c.as_slice-before.ensures c.in-Ok.ensures.script (c.deref-2.ensures.value ∙ c.in_ok-columns.ensures.columns b has is)
    (ap column_pivots c.deref-3.ensures.value ∙ c.in_ok-pivots.ensures.pivots (form_of c.args.form.now) b has
    (c.deref.ensures.value ∙ c.in_ok-columns.ensures.columns b has is)))

pub collect_values-requires-clause-places : goal.collect_values-requires-clause-places
collect_values-requires-clause-places g c =
    let b = c.requires.batch.0 in
    let begins = c.requires.batch.1 in
    let has = c.requires.batch.2 in
    let is = c.requires.batch.3 in
    ask_places (form_of c.args.form.now) b c.args.steps.now c.as_slice-before.result.now c.in-Ok.flips c.deref-2.result.now c.deref-3.result.now
    (gather (form_of c.args.form.now) b c.args.steps.now c.args.state.now c.args.factor.now c.args.form.now.rows
    c.as_slice-before.result.now c.in-Ok.flips c.deref-2.result.now c.deref-3.result.now c.requires.solved begins has is c.args.form.now.kept.tall
    c.as_slice-before.ensures c.in-Ok.ensures.script (c.deref-2.ensures.value ∙ c.in_ok-columns.ensures.columns b has is)
    (ap column_pivots c.deref-3.ensures.value ∙ c.in_ok-pivots.ensures.pivots (form_of c.args.form.now) b has
    (c.deref.ensures.value ∙ c.in_ok-columns.ensures.columns b has is)))

pub collect_values-requires-clause-pivots : goal.collect_values-requires-clause-pivots
collect_values-requires-clause-pivots g c =
    let b = c.requires.batch.0 in
    let begins = c.requires.batch.1 in
    let has = c.requires.batch.2 in
    let is = c.requires.batch.3 in
    ask_pivots (form_of c.args.form.now) b c.args.steps.now c.as_slice-before.result.now c.in-Ok.flips c.deref-2.result.now c.deref-3.result.now
    (gather (form_of c.args.form.now) b c.args.steps.now c.args.state.now c.args.factor.now c.args.form.now.rows
    c.as_slice-before.result.now c.in-Ok.flips c.deref-2.result.now c.deref-3.result.now c.requires.solved begins has is c.args.form.now.kept.tall
    c.as_slice-before.ensures c.in-Ok.ensures.script (c.deref-2.ensures.value ∙ c.in_ok-columns.ensures.columns b has is)
    (ap column_pivots c.deref-3.ensures.value ∙ c.in_ok-pivots.ensures.pivots (form_of c.args.form.now) b has
    (c.deref.ensures.value ∙ c.in_ok-columns.ensures.columns b has is)))

pub returns-in-Ok-collect_values-clause-refused : goal.returns-in-Ok-collect_values-clause-refused
returns-in-Ok-collect_values-clause-refused g c = λ b begins has is.
    let f = form_of c.args.form.now in
    values_left f b (c.in_ok-columns.ensures.refused b has is)
    (flips_refusal (form_of c.args.form.now) b c.args.steps.now c.args.factor.now c.args.form.now.rows has is c.args.form.now.kept.tall
    ∙ ap refusal c.in-Ok.ensures.script)
    (c.in_ok-pivots.ensures.refused f b has (c.deref.ensures.value ∙ c.in_ok-columns.ensures.columns b has is))
    ∙ ap (λ o. refused_or o Values None)
    (ap refusal (sym (values_script_is
    (form_of c.args.form.now) b c.args.steps.now c.as_slice-before.result.now c.in-Ok.flips c.deref-2.result.now c.deref-3.result.now
    (gather (form_of c.args.form.now) b c.args.steps.now c.args.state.now c.args.factor.now c.args.form.now.rows
    c.as_slice-before.result.now c.in-Ok.flips c.deref-2.result.now c.deref-3.result.now c.requires.solved begins has is c.args.form.now.kept.tall
    c.as_slice-before.ensures c.in-Ok.ensures.script (c.deref-2.ensures.value ∙ c.in_ok-columns.ensures.columns b has is)
    (ap column_pivots c.deref-3.ensures.value ∙ c.in_ok-pivots.ensures.pivots (form_of c.args.form.now) b has
    (c.deref.ensures.value ∙ c.in_ok-columns.ensures.columns b has is)))) ∙ c.in-Ok-collect_values.ensures))

pub returns-in-Ok-collect_values-clause-values : goal.returns-in-Ok-collect_values-clause-values
returns-in-Ok-collect_values-clause-values g c = λ b begins has is.
    values_exact (form_of c.args.form.now) b c.args.steps.now c.as_slice-before.result.now c.in-Ok.flips
    c.deref-2.result.now c.deref-3.result.now c.in-Ok-collect_values.values
    (gather (form_of c.args.form.now) b c.args.steps.now c.args.state.now c.args.factor.now c.args.form.now.rows
    c.as_slice-before.result.now c.in-Ok.flips c.deref-2.result.now c.deref-3.result.now c.requires.solved begins has is c.args.form.now.kept.tall
    c.as_slice-before.ensures c.in-Ok.ensures.script (c.deref-2.ensures.value ∙ c.in_ok-columns.ensures.columns b has is)
    (ap column_pivots c.deref-3.ensures.value ∙ c.in_ok-pivots.ensures.pivots (form_of c.args.form.now) b has
    (c.deref.ensures.value ∙ c.in_ok-columns.ensures.columns b has is))) c.in-Ok-collect_values.ensures

pub returns-clause-refused : goal.returns-clause-refused
returns-clause-refused g c = λ b begins has is.
    let f = form_of c.args.form.now in
    follows_placed (collect_script c.as_slice-before.result.now c.in-Ok.flips (exchanges_of c.args.steps.now c.deref-2.result.now)
    (column_pivots c.deref-3.result.now))
    c.in-Err-collect_values.fault Values (first_refused (collect_tasks f b.history b.first b.minors)) c.fault_at-in-Err-collect_values.result
    c.in-Err-collect_values.ensures c.fault_at-in-Err-collect_values.ensures
    (λ r h. values_left f b (c.in_ok-columns.ensures.refused b has is)
    (flips_refusal (form_of c.args.form.now) b c.args.steps.now c.args.factor.now c.args.form.now.rows has is c.args.form.now.kept.tall
    ∙ ap refusal c.in-Ok.ensures.script)
    (c.in_ok-pivots.ensures.refused f b has (c.deref.ensures.value ∙ c.in_ok-columns.ensures.columns b has is))
    ∙ ap (λ o. refused_or o Values None)
    (ap refusal (sym (values_script_is
    (form_of c.args.form.now) b c.args.steps.now c.as_slice-before.result.now c.in-Ok.flips c.deref-2.result.now c.deref-3.result.now
    (gather (form_of c.args.form.now) b c.args.steps.now c.args.state.now c.args.factor.now c.args.form.now.rows
    c.as_slice-before.result.now c.in-Ok.flips c.deref-2.result.now c.deref-3.result.now c.requires.solved begins has is c.args.form.now.kept.tall
    c.as_slice-before.ensures c.in-Ok.ensures.script (c.deref-2.ensures.value ∙ c.in_ok-columns.ensures.columns b has is)
    (ap column_pivots c.deref-3.ensures.value ∙ c.in_ok-pivots.ensures.pivots (form_of c.args.form.now) b has
    (c.deref.ensures.value ∙ c.in_ok-columns.ensures.columns b has is)))) ∙ h)))
