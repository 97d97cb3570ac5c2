use Rattle.std.proofs.Common.{◌∷◌, [], None, Ok, Err, refl, sym, ◌∙◌, subst, true≢false}
use Rattle.std.proofs.lemmas.Result.{err_from_is_err_and}
use Rattle.pami_frac.specs.Answers.{Follows}
use Rattle.pami_frac.specs.declared.arithmetic.Refused.{Refused}
use Rattle.pami_frac.specs.declared.fault.Fault.{Fault}
use Rattle.pami_method.specs.Phases.{start_refused}
use Rattle.pami_log.specs.declared.event.Event.TheVariants as told
use Rattle.pami_state.specs.declared.state.State.{State}
use Rattle.pami_form.specs.FormOf.{form_of}
use Rattle.pami_phase.specs.declared.answer.Answer.{Answer}
use Rattle.pami_phase.specs.declared.answer.Answer.TheVariants as answers
use Rattle.pami_phase.specs.Runs.{EndsRun, LeadsOn}
use Rattle.pami_phase.proofs.Starting.{start_ready, start_state, starts_of, start_stands, start_reduced, start_feasible}
use Rattle.pami_phase.proofs.Further.{told_further, untold_exit, short}
use Rattle.pami_phase.proofs.Beginnings.{begins_any, start_leads, start_begins}
use Rattle.pami_phase.proofs.Opening.{at_start, start_unfit}
use Rattle.pami_phase.proofs.stages.run.Goals as goal

pub returns-in-Err-Named : goal.returns-in-Err-Named
returns-in-Err-Named g c =
    let f = form_of c.args.form.now in
    let End : Answer → Type 0 = λ a. EndsRun f c.args.options.now [] (g.T.Teller.stands c.args.teller.now) (g.T.Teller.stands c.args.teller.now) (g.T.Teller.stopped c.args.teller.now)
    (g.T.Teller.faults c.args.teller.now) (g.T.Teller.faults c.args.teller.now) (Ok a) in
    let So : Refused → Type 0 = λ x. End (answers.Overflow (at_start x)) in
    subst End (sym c.overflow.ensures)
    (subst So (sym c.in-Err-Named.refused-is)
    (start_unfit f c.args.options.now (g.T.Teller.stands c.args.teller.now) (g.T.Teller.stopped c.args.teller.now) (g.T.Teller.faults c.args.teller.now) c.in-Err-Named.refused
    (λ s fresh.
    subst (λ (x : Fault Refused). Follows {A = State} (start_refused f s) (Err x)) c.in-Err-Named.field-0-is (c.in-Err-Named.ensures.follows s fresh))))

pub returns-in-Err-OutOfMemory : goal.returns-in-Err-OutOfMemory
returns-in-Err-OutOfMemory g c =
    short (form_of c.args.form.now) c.args.options.now [] (g.T.Teller.stands c.args.teller.now) (g.T.Teller.stopped c.args.teller.now) (g.T.Teller.faults c.args.teller.now)
    (begins_any (form_of c.args.form.now) c.args.options.now c.requires.options.some_row)

pub dual_feasible-requires-clause-stands : goal.dual_feasible-requires-clause-stands
dual_feasible-requires-clause-stands g c = start_stands c.args.form.now c.in-Ok.state c.as_slice.result.now c.as_slice.ensures c.in-Ok.ensures.starts

pub dual_feasible-requires-clause-reduced : goal.dual_feasible-requires-clause-reduced
dual_feasible-requires-clause-reduced g c = start_reduced c.args.form.now c.in-Ok.state c.as_slice.result.now c.as_slice.ensures c.in-Ok.ensures.starts

pub returns-in_err-tell : goal.returns-in_err-tell
returns-in_err-tell g c =
    let f = form_of c.args.form.now in
    let o = c.args.options.now in
    let p = err_from_is_err_and c.from_residual.result c.from_residual.ensures.1 in
    untold_exit f o (Unit {0}) [] (told.Phase 2)
    (g.T.Teller.stands c.args.teller.now) (g.T.Teller.stands c.tell.new.self) (g.T.Teller.stopped c.tell.new.self) (g.T.Teller.faults c.args.teller.now) (g.T.Teller.faults c.tell.new.self)
    c.from_residual.result p.0 c.in_err-tell.field-0.0 p.1 p.2
    (start_begins f o c.requires.options.some_row (starts_of f c.in-Ok.state c.in-Ok.ensures.starts) ((start_feasible c.args.form.now c.in-Ok.state c.as_slice.result.now c.dual_feasible.result c.as_slice.ensures c.in-Ok.ensures.starts c.dual_feasible.ensures.feasible).0 c.if-dual_feasible.true))
    c.in_err-tell.ensures

pub phase_two-requires-clause-factor : goal.phase_two-requires-clause-factor
phase_two-requires-clause-factor g c = (None, tt)

pub phase_two-requires-clause-ready : goal.phase_two-requires-clause-ready
phase_two-requires-clause-ready g c =
    start_ready c.args.form.now c.args.options.now.limit (form_of c.args.form.now) c.in-Ok.state refl c.in-Ok.ensures.starts ((start_feasible c.args.form.now c.in-Ok.state c.as_slice.result.now c.dual_feasible.result c.as_slice.ensures c.in-Ok.ensures.starts c.dual_feasible.ensures.feasible).0 c.if-dual_feasible.true)

pub returns-then-dual_feasible : goal.returns-then-dual_feasible
returns-then-dual_feasible g c =
    let f = form_of c.args.form.now in
    let o = c.args.options.now in
    told_further f o [] (told.Phase 2 ∷ [])
    (g.T.Teller.stands c.args.teller.now) (g.T.Teller.stands c.tell.new.self) (g.T.Teller.stands c.phase_two.new.teller) (g.T.Teller.stopped c.phase_two.new.teller)
    (g.T.Teller.faults c.args.teller.now) (g.T.Teller.faults c.tell.new.self) (g.T.Teller.faults c.phase_two.new.teller) c.phase_two.result
    c.in_ok-tell.ensures.0 c.in_ok-tell.ensures.1
    (c.phase_two.ensures (told.Phase 2 ∷ []) None tt
    (subst (LeadsOn f o (told.Phase 2 ∷ []) 0) (sym (start_state f c.in-Ok.state c.in-Ok.ensures.starts))
    (start_leads f o (starts_of f c.in-Ok.state c.in-Ok.ensures.starts) ((start_feasible c.args.form.now c.in-Ok.state c.as_slice.result.now c.dual_feasible.result c.as_slice.ensures c.in-Ok.ensures.starts c.dual_feasible.ensures.feasible).0 c.if-dual_feasible.true))))

pub returns : goal.returns
returns g c =
    c.phase_one.ensures (record {
      starts = starts_of (form_of c.args.form.now) c.in-Ok.state c.in-Ok.ensures.starts;
      not_feasible = λ d. true≢false (sym ((start_feasible c.args.form.now c.in-Ok.state c.as_slice.result.now c.dual_feasible.result c.as_slice.ensures c.in-Ok.ensures.starts c.dual_feasible.ensures.feasible).1 d) ∙ c.if-dual_feasible.false);
    })
