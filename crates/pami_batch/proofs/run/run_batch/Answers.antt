use Rattle.std.proofs.Common.{◌+◌, Ok, length, subst, arith}
use Rattle.pami_form.specs.FormOf.{form_of}
use Rattle.pami_minor.specs.Opening.{first_reached}
use Rattle.pami_batch.specs.declared.minors.Minors.{Minors}
use Rattle.pami_batch.specs.Minors.{HasMinors}
use Rattle.pami_batch.proofs.Finished.{batch_at, finished, steps_few, outcome_of, outcome_all, minors_refused}
use Rattle.pami_batch.proofs.Solves.{stopped_solves, refused_solves}
use Rattle.pami_batch.proofs.run.run_batch.Goals as goal

pub collect_stopped-requires-clause-batch : goal.collect_stopped-requires-clause-batch
collect_stopped-requires-clause-batch g c =
    let form = c.args.form.now in
    let st = c.args.state.now in
    let left = c.args.steps_left in
    let o = c.requires.openable in
    let k = c.requires.factor in
    let m = subst (λ (x : Minors). HasMinors (form_of form) (st.pivots + left) k.0 (first_reached form st o.solved.fresh o.most) (Ok x)) c.in-Ok-Stopped.field-0-is
    (c.in-Ok-Stopped.ensures.minors o.solved.fresh o.most k.0 o.solved.solved o.chosen_are k.1) in (
      batch_at form st k.0 o.solved.fresh o.most left m.0 m.1,
      finished form st c.args.factor.now k.0 o.solved.fresh o.most left c.args.chosen.now m.0 m.1 c.in-Ok-Stopped.minor o o.solved.solved k.1 m.2 m.3.2 m.3.1,
    )

pub returns-in-Ok-Stopped-clause-outcome : goal.returns-in-Ok-Stopped-clause-outcome
returns-in-Ok-Stopped-clause-outcome g c =
    let form = c.args.form.now in
    let st = c.args.state.now in
    let left = c.args.steps_left in
    let o = c.requires.openable in
    outcome_all form st c.args.factor.now c.args.chosen.now left c.collect_stopped.result (λ s most h fresh e is.
    let limit = st.pivots + left in
    let first = first_reached form st s most in
    let m = subst (λ (x : Minors). HasMinors (form_of form) limit h first (Ok x)) c.in-Ok-Stopped.field-0-is (c.in-Ok-Stopped.ensures.minors s most h fresh e is) in
    outcome_of (form_of form) limit h first m.0 m.1 c.collect_stopped.result m.2
    (c.collect_stopped.ensures.outcome (batch_at form st h s most left m.0 m.1)
    (finished form st c.args.factor.now h s most left c.args.chosen.now m.0 m.1 c.in-Ok-Stopped.minor o fresh is m.2 m.3.2 m.3.1)
    (record { stop = m.3.0; told = m.3.3; fits = m.3.4 })))

pub returns-in-Ok-Stopped-clause-few : goal.returns-in-Ok-Stopped-clause-few
returns-in-Ok-Stopped-clause-few g c =
    let form = c.args.form.now in
    let st = c.args.state.now in
    let left = c.args.steps_left in
    let o = c.requires.openable in
    let k = c.requires.factor in
    let m = subst (λ (x : Minors). HasMinors (form_of form) (st.pivots + left) k.0 (first_reached form st o.solved.fresh o.most) (Ok x)) c.in-Ok-Stopped.field-0-is
    (c.in-Ok-Stopped.ensures.minors o.solved.fresh o.most k.0 o.solved.solved o.chosen_are k.1) in
    let few = steps_few form st o.solved.fresh o.most left c.args.chosen.now m.0 m.1 c.in-Ok-Stopped.minor o.chosen_are m.2 m.3.2 in
    let minors = c.in-Ok-Stopped.ensures.counted in
    let collected = c.collect_stopped.ensures.counted in
    omega (arith, few, minors, collected)

pub returns-in-Ok-Stopped-clause-counted : goal.returns-in-Ok-Stopped-clause-counted
returns-in-Ok-Stopped-clause-counted g c =
    let form = c.args.form.now in
    let st = c.args.state.now in
    let left = c.args.steps_left in
    let o = c.requires.openable in
    let k = c.requires.factor in
    let m = subst (λ (x : Minors). HasMinors (form_of form) (st.pivots + left) k.0 (first_reached form st o.solved.fresh o.most) (Ok x)) c.in-Ok-Stopped.field-0-is
    (c.in-Ok-Stopped.ensures.minors o.solved.fresh o.most k.0 o.solved.solved o.chosen_are k.1) in
    stopped_solves c.args.steps.now.count c.run_minors.new.steps.count c.collect_stopped.new.steps.count (length c.args.chosen.now)
    (length c.in-Ok-Stopped.minor.steps.items) c.collect_stopped.result c.in-Ok-Stopped.ensures.counted c.collect_stopped.ensures.counted
    (steps_few form st o.solved.fresh o.most left c.args.chosen.now m.0 m.1 c.in-Ok-Stopped.minor o.chosen_are m.2 m.3.2) c.collect_stopped.ensures.pivots

pub returns-in-Err-clause-counted : goal.returns-in-Err-clause-counted
returns-in-Err-clause-counted g c =
    refused_solves c.args.steps.now.count c.run_minors.new.steps.count (length c.args.chosen.now) c.in-Err.fault c.refused.result c.in-Err.ensures.counted
    c.refused.ensures

pub returns-in-Err-clause-outcome : goal.returns-in-Err-clause-outcome
returns-in-Err-clause-outcome g c =
    let form = c.args.form.now in
    let st = c.args.state.now in
    let left = c.args.steps_left in
    outcome_all form st c.args.factor.now c.args.chosen.now left c.refused.result (λ s most h fresh e is.
    minors_refused (form_of form) (st.pivots + left) h (first_reached form st s most) c.in-Err.fault c.refused.result (c.in-Err.ensures.minors s most h fresh e is)
    c.refused.ensures)
