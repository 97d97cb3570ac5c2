use Rattle.std.proofs.Common.{Some}
use Rattle.pami_log.specs.declared.event.Event.TheVariants as told
use Rattle.pami_form.specs.FormOf.{form_of}
use Rattle.pami_major.specs.EndsMajor.{walk_state}
use Rattle.pami_major.proofs.Ends.{values_lent, known_lent, due_lent, optimal_end, limit_end, known_of, stuck_end, kept_factor_is, fault_named, kept_end, stuck_of, known_taken, no_factor}
use Rattle.pami_major.specs.MostSteps.{rows_chosen}
use Rattle.pami_major.proofs.Steps.{kept_steps, stuck_steps}
use Rattle.pami_major.proofs.majors.major.Goals as goal

pub has_infeasible-infeasible-requires-clause-values : goal.has_infeasible-infeasible-requires-clause-values
has_infeasible-infeasible-requires-clause-values g c =
    values_lent c.args.form.now c.args.options.now.limit c.args.state.now c.as_slice.result.now c.as_slice-3.result.now c.requires.ready c.as_slice.ensures
    c.as_slice-3.ensures

pub has_infeasible-infeasible-requires-clause-known : goal.has_infeasible-infeasible-requires-clause-known
has_infeasible-infeasible-requires-clause-known g c =
    known_lent c.args.form.now c.args.options.now.limit c.args.state.now c.as_slice.result.now c.as_slice-2.result.now c.args.form.now.kept c.requires.ready
    c.as_slice.ensures c.as_slice-2.ensures

pub returns-then-not-infeasible-clause-came : goal.returns-then-not-infeasible-clause-came
returns-then-not-infeasible-clause-came g c = λ h k.
    optimal_end c.args.form.now c.args.options.now c.args.number c.args.mode h c.args.state.now c.args.factor.now c.as_slice.result.now
    c.as_slice-2.result.now
    c.as_slice-3.result.now c.requires.ready c.as_slice.ensures c.as_slice-2.ensures c.as_slice-3.ensures
    (c.has_infeasible-infeasible.ensures.none c.if-not-infeasible.true)

pub returns-then-state-options-clause-came : goal.returns-then-state-options-clause-came
returns-then-state-options-clause-came g c = λ h k.
    limit_end c.args.form.now c.args.options.now c.args.number c.args.mode h c.args.state.now c.args.factor.now c.as_slice.result.now c.as_slice-2.result.now
    c.as_slice-3.result.now c.requires.ready c.as_slice.ensures c.as_slice-2.ensures c.as_slice-3.ensures
    (c.has_infeasible-infeasible.ensures.some c.if-not-infeasible.false) c.if-state-options.true

pub attempt-requires-clause-due : goal.attempt-requires-clause-due
attempt-requires-clause-due g c =
    due_lent c.args.form.now c.args.options.now c.args.state.now c.as_slice.result.now c.as_slice-2.result.now c.as_slice-3.result.now c.requires.options
    c.requires.ready
    c.as_slice.ensures c.as_slice-2.ensures c.as_slice-3.ensures (c.has_infeasible-infeasible.ensures.some c.if-not-infeasible.false) c.if-state-options.false

pub returns-in-Ok-Kept-clause-came : goal.returns-in-Ok-Kept-clause-came
returns-in-Ok-Kept-clause-came g c = λ h k.
    kept_end c.args.form.now c.args.options.now c.args.number c.args.mode h c.args.state.now c.in-Ok-Kept.behind c.in-Ok-Kept.made c.in-Ok-Kept.chosen
    c.in-Ok-Kept.moves
    c.in-Ok-Kept.field-0
    (c.in-Ok-Kept.ensures.came c.args.number h
    (known_taken (form_of c.args.form.now) c.args.mode h c.args.state.now c.args.factor.now c.take.result k c.take.ensures.value))
    c.in-Ok-Kept.field-0-is

pub returns-in-Ok-Kept-clause-factor : goal.returns-in-Ok-Kept-clause-factor
returns-in-Ok-Kept-clause-factor g c =
    let f = form_of c.args.form.now in
    let h = c.requires.factor.0 in
    let k = known_of f c.args.mode h c.args.state.now c.args.factor.now c.requires.factor.1 in
    kept_factor_is c.args.form.now c.args.options.now c.args.number c.args.mode (walk_state c.args.state.now h) c.in-Ok-Kept.behind (Some c.in-Ok-Kept.made)
    (told.Major c.args.number c.args.mode c.in-Ok-Kept.chosen c.in-Ok-Kept.moves)
    (kept_end c.args.form.now c.args.options.now c.args.number c.args.mode h c.args.state.now c.in-Ok-Kept.behind c.in-Ok-Kept.made c.in-Ok-Kept.chosen
    c.in-Ok-Kept.moves
    c.in-Ok-Kept.field-0
    (c.in-Ok-Kept.ensures.came c.args.number h (known_taken f c.args.mode h c.args.state.now c.args.factor.now c.take.result k c.take.ensures.value))
    c.in-Ok-Kept.field-0-is)

pub returns-in-Ok-Stuck-clause-came : goal.returns-in-Ok-Stuck-clause-came
returns-in-Ok-Stuck-clause-came g c = λ h k.
    stuck_end c.args.form.now c.args.options.now c.args.number c.args.mode h c.args.state.now c.take.new.self c.in-Ok-Stuck.chosen c.in-Ok-Stuck.rho
    c.in-Ok-Stuck.moves
    (stuck_of c.args.form.now c.args.options.now c.args.number c.args.mode h c.args.state.now c.in-Ok-Stuck.chosen c.in-Ok-Stuck.rho c.in-Ok-Stuck.moves
    c.in-Ok-Stuck.field-0
    (c.in-Ok-Stuck.ensures.came c.args.number h
    (known_taken (form_of c.args.form.now) c.args.mode h c.args.state.now c.args.factor.now c.take.result k c.take.ensures.value))
    c.in-Ok-Stuck.field-0-is)

pub returns-in-Ok-Stuck-clause-factor : goal.returns-in-Ok-Stuck-clause-factor
returns-in-Ok-Stuck-clause-factor g c = no_factor (form_of c.args.form.now) c.args.state.now c.take.new.self c.take.ensures.after

pub returns-in-Err-Named-clause-came : goal.returns-in-Err-Named-clause-came
returns-in-Err-Named-clause-came g c = λ h k.
    fault_named c.args.form.now c.args.options.now c.args.number c.args.mode h c.args.state.now c.take.new.self c.in-Err-Named.field-0 c.in-Err-Named.place
    (c.in-Err-Named.ensures.came c.args.number h
    (known_taken (form_of c.args.form.now) c.args.mode h c.args.state.now c.args.factor.now c.take.result k c.take.ensures.value))
    c.in-Err-Named.field-0-is

pub returns-in-Err-Named-clause-factor : goal.returns-in-Err-Named-clause-factor
returns-in-Err-Named-clause-factor g c = no_factor (form_of c.args.form.now) c.args.state.now c.take.new.self c.take.ensures.after

pub returns-in-Err-OutOfMemory-clause-factor : goal.returns-in-Err-OutOfMemory-clause-factor
returns-in-Err-OutOfMemory-clause-factor g c = no_factor (form_of c.args.form.now) c.args.state.now c.take.new.self c.take.ensures.after

-- ---- the steps
pub returns-in-Ok-Kept-clause-counted : goal.returns-in-Ok-Kept-clause-counted
returns-in-Ok-Kept-clause-counted g c = λ s fresh.
    kept_steps (rows_chosen c.args.form.now c.args.options.now c.args.mode c.args.state.now s) c.args.steps.now.count c.attempt.new.steps.count
    c.in-Ok-Kept.field-0 c.in-Ok-Kept.behind c.in-Ok-Kept.made c.in-Ok-Kept.chosen c.in-Ok-Kept.moves (c.in-Ok-Kept.ensures.counted s fresh) c.in-Ok-Kept.field-0-is

pub returns-in-Ok-Stuck-clause-counted : goal.returns-in-Ok-Stuck-clause-counted
returns-in-Ok-Stuck-clause-counted g c = λ s fresh.
    stuck_steps (rows_chosen c.args.form.now c.args.options.now c.args.mode c.args.state.now s) c.args.steps.now.count c.attempt.new.steps.count
    c.in-Ok-Stuck.field-0 c.in-Ok-Stuck.chosen c.in-Ok-Stuck.rho c.in-Ok-Stuck.moves (c.in-Ok-Stuck.ensures.counted s fresh) c.in-Ok-Stuck.field-0-is
