use Rattle.std.proofs.Common.{◌≡◌, ◌∷◌, [], Some, Ok, Err, sym, subst}
use Rattle.std.proofs.lemmas.Result.{err_from_is_err_and}
use Rattle.pami_frac.specs.Answers.{Follows}
use Rattle.pami_frac.specs.declared.arithmetic.Refused.{Refused}
use Rattle.pami_frac.specs.declared.fault.Fault.{Fault}
use Rattle.pami_frac.specs.declared.fault.Fault.TheVariants as faults
use Rattle.pami_theory.specs.Form.{Form}
use Rattle.pami_theory.specs.Fresh.{Fresh, IsFresh}
use Rattle.pami_theory.specs.Start.{starting_basis}
use Rattle.pami_method.specs.Phases.{start_refused}
use Rattle.pami_log.specs.declared.event.Event.TheVariants as told
use Rattle.pami_state.specs.declared.state.State.{State}
use Rattle.pami_form.specs.FormOf.{form_of}
use Rattle.pami_phase.specs.declared.answer.Answer.{Answer}
use Rattle.pami_phase.specs.declared.answer.Answer.TheVariants as answers
use Rattle.pami_phase.specs.Runs.{EndsRun}
use Rattle.pami_phase.proofs.Further.{told_further, untold_exit, short, short_exit}
use Rattle.pami_phase.proofs.Beginnings.{begins_any, boxes_begin}
use Rattle.pami_phase.proofs.Opening.{at_start, boxes_unfit}
use Rattle.pami_phase.proofs.stages.phase_one.Goals as goal

pub returns-in_err-boxes : goal.returns-in_err-boxes
returns-in_err-boxes g c = λ starts.
    let f = form_of c.args.form.now in
    let o = c.args.options.now in
    let p = err_from_is_err_and c.from_residual.result c.from_residual.ensures.1 in
    short_exit f o [] (g.T.Teller.stands c.args.teller.now) (g.T.Teller.stopped c.args.teller.now) (g.T.Teller.faults c.args.teller.now) c.from_residual.result p.0 p.1 p.2 (begins_any f o c.requires.options.some_row)

pub returns-in_err-tell : goal.returns-in_err-tell
returns-in_err-tell g c = λ starts.
    let f = form_of c.args.form.now in
    let o = c.args.options.now in
    let p = err_from_is_err_and c.from_residual-in_err-tell.result c.from_residual-in_err-tell.ensures.1 in
    untold_exit f o (Unit {0}) [] (told.Phase 1)
    (g.T.Teller.stands c.args.teller.now) (g.T.Teller.stands c.tell.new.self) (g.T.Teller.stopped c.tell.new.self) (g.T.Teller.faults c.args.teller.now) (g.T.Teller.faults c.tell.new.self)
    c.from_residual-in_err-tell.result p.0 c.in_err-tell.field-0.0 p.1 p.2 (boxes_begin f o c.requires.options.some_row starts) c.in_err-tell.ensures

pub returns-in-Ok : goal.returns-in-Ok
returns-in-Ok g c = λ starts.
    told_further (form_of c.args.form.now) c.args.options.now [] (told.Phase 1 ∷ [])
    (g.T.Teller.stands c.args.teller.now) (g.T.Teller.stands c.tell.new.self) (g.T.Teller.stands c.walk_boxes.new.teller) (g.T.Teller.stopped c.walk_boxes.new.teller)
    (g.T.Teller.faults c.args.teller.now) (g.T.Teller.faults c.tell.new.self) (g.T.Teller.faults c.walk_boxes.new.teller) c.walk_boxes.result
    c.in_ok-tell.ensures.0 c.in_ok-tell.ensures.1 (c.walk_boxes.ensures starts)

pub returns-in-Err-Named : goal.returns-in-Err-Named
returns-in-Err-Named g c = λ starts.
    let f = form_of c.args.form.now in
    let o = c.args.options.now in
    let End : Answer → Type 0 = λ a. EndsRun f o [] (g.T.Teller.stands c.args.teller.now) (g.T.Teller.stands c.tell.new.self) (g.T.Teller.stopped c.tell.new.self)
    (g.T.Teller.faults c.args.teller.now) (g.T.Teller.faults c.tell.new.self) (Ok a) in
    let So : Refused → Type 0 = λ x. End (answers.Overflow (at_start x)) in
    subst End (sym c.overflow.ensures)
    (subst So (sym c.in-Err-Named.refused-is)
    (told_further f o [] (told.Phase 1 ∷ [])
    (g.T.Teller.stands c.args.teller.now) (g.T.Teller.stands c.tell.new.self) (g.T.Teller.stands c.tell.new.self) (g.T.Teller.stopped c.tell.new.self)
    (g.T.Teller.faults c.args.teller.now) (g.T.Teller.faults c.tell.new.self) (g.T.Teller.faults c.tell.new.self) (Ok (answers.Overflow (at_start c.in-Err-Named.refused)))
    c.in_ok-tell.ensures.0 c.in_ok-tell.ensures.1
    (boxes_unfit f o (g.T.Teller.stands c.tell.new.self) (g.T.Teller.stopped c.tell.new.self) (g.T.Teller.faults c.tell.new.self) c.in-Err-Named.refused starts
    (subst (λ (h : Form). (t : Fresh) → IsFresh h (starting_basis h) t → start_refused h t ≡ Some c.in-Err-Named.refused) c.in_ok-boxes.ensures
    (λ t fresh.
    subst (λ (x : Fault Refused). Follows {A = State} (start_refused (form_of c.in_ok-boxes.boxes) t) (Err x)) c.in-Err-Named.field-0-is (c.in-Err-Named.ensures.follows t fresh))))))

pub returns : goal.returns
returns g c = λ starts.
    let f = form_of c.args.form.now in
    let o = c.args.options.now in
    told_further f o [] (told.Phase 1 ∷ [])
    (g.T.Teller.stands c.args.teller.now) (g.T.Teller.stands c.tell.new.self) (g.T.Teller.stands c.tell.new.self) (g.T.Teller.stopped c.tell.new.self)
    (g.T.Teller.faults c.args.teller.now) (g.T.Teller.faults c.tell.new.self) (g.T.Teller.faults c.tell.new.self) (Err faults.OutOfMemory)
    c.in_ok-tell.ensures.0 c.in_ok-tell.ensures.1
    (short f o (told.Phase 1 ∷ []) (g.T.Teller.stands c.tell.new.self) (g.T.Teller.stopped c.tell.new.self) (g.T.Teller.faults c.tell.new.self) (boxes_begin f o c.requires.options.some_row starts))
