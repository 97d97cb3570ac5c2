use Rattle.std.proofs.Common.{◌≡◌, ◌∙◌, ap, sym, subst, List, map}
use Rattle.pami_method.specs.Work.{pivot_of}
use Rattle.pami_vec.specs.declared.step.Step.{Step}
use Rattle.pami_vec.specs.Pivots.{column_pivots, ArePivots}
use Rattle.pami_form.specs.FormOf.{form_of}
use Rattle.pami_batch.specs.FinishedBatch.{HasSteps}
use Rattle.pami_batch.proofs.BatchSteps.{all_pivots_ready}
use Rattle.pami_batch.proofs.CollectedStates.{is_state, weights_long, counted_within}
use Rattle.pami_batch.proofs.collecting.collect_batch.Goals as goal

pub collect-requires-clause-pivots : goal.collect-requires-clause-pivots
collect-requires-clause-pivots g c =
    let f = form_of c.args.form.now in
    let b = c.requires.batch.0 in
    let fin = c.requires.batch.1 in
    let has = subst (λ (ss : List Step). HasSteps f ss b) (sym c.steps.ensures) fin.steps in
    let made : column_pivots c.deref.result.now ≡ map pivot_of b.minors =
    ap column_pivots c.deref.ensures.value ∙ c.in_ok-pivots.ensures.pivots b fin.begins has fin.factored in
    subst (λ n. ArePivots n c.deref.result.now) (sym (weights_long f c.args.state.now b c.steps.result.now has fin.begins c.requires.weights))
    (all_pivots_ready f b c.steps.result.now c.deref.result.now has made)

pub collect-requires-clause-few : goal.collect-requires-clause-few
collect-requires-clause-few g c =
    let f = form_of c.args.form.now in
    let b = c.requires.batch.0 in
    let fin = c.requires.batch.1 in
    let has = subst (λ (ss : List Step). HasSteps f ss b) (sym c.steps.ensures) fin.steps in
    counted_within f c.args.state.now b c.steps.result.now c.deref.result.now has fin.begins
    (ap column_pivots c.deref.ensures.value ∙ c.in_ok-pivots.ensures.pivots b fin.begins has fin.factored)

pub returns-clause-state : goal.returns-clause-state
returns-clause-state g c = λ b fin.
    let f = form_of c.args.form.now in
    let has = subst (λ (ss : List Step). HasSteps f ss b) (sym c.steps.ensures) fin.steps in
    is_state f b c.steps.result.now c.args.state.now c.end.result c.in_ok-pivots.field-0.values
    (column_pivots c.deref.result.now) c.in_ok-state.state has fin.begins
    (c.end.ensures.fresh f b.limit b.last fin.stopped) (c.in_ok-pivots.ensures.values b fin.begins has fin.factored)
    (ap column_pivots c.deref.ensures.value ∙ c.in_ok-pivots.ensures.pivots b fin.begins has fin.factored) c.in_ok-state.ensures

pub returns-clause-nonzero : goal.returns-clause-nonzero
returns-clause-nonzero g c =
    let f = form_of c.args.form.now in
    let b = c.requires.batch.0 in
    let fin = c.requires.batch.1 in
    let has = subst (λ (ss : List Step). HasSteps f ss b) (sym c.steps.ensures) fin.steps in
    all_pivots_ready f b c.steps.result.now c.from_vec-pivots.result has
    (ap column_pivots c.from_vec-pivots.ensures ∙ c.in_ok-pivots.ensures.pivots b fin.begins has fin.factored)
