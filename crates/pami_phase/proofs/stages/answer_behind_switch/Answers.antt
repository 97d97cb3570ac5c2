use Rattle.std.proofs.Common.{◌∷◌, [], ◌++◌, Some, Ok, Err, sym, subst}
use Rattle.std.proofs.lemmas.Result.{err_from_is_err_and}
use Rattle.pami_frac.specs.Answers.{Follows}
use Rattle.pami_frac.specs.declared.arithmetic.Refused.{Refused}
use Rattle.pami_frac.specs.declared.fault.Fault.{Fault}
use Rattle.pami_frac.specs.declared.fault.Fault.TheVariants as faults
use Rattle.pami_method.specs.declared.words.Spot.TheVariants as spots
use Rattle.pami_method.specs.Phases.{switch_refused}
use Rattle.pami_log.specs.declared.event.Event.TheVariants as told
use Rattle.pami_phase.specs.declared.switch.SwitchedState.{SwitchedState}
use Rattle.pami_state.specs.State.{basis_of}
use Rattle.pami_form.specs.FormOf.{form_of}
use Rattle.pami_phase.specs.declared.answer.Answer.{Answer}
use Rattle.pami_phase.specs.declared.answer.Answer.TheVariants as answers
use Rattle.pami_phase.specs.Runs.{boxes_events, EndsRun}
use Rattle.pami_phase.proofs.Further.{told_further, untold_exit, short}
use Rattle.pami_phase.proofs.Switching.{phase_two_begins, unswitched, switched_leads, next_factor, next_ready}
use Rattle.pami_phase.proofs.stages.answer_behind_switch.Goals as goal

pub returns-in_err-tell : goal.returns-in_err-tell
returns-in_err-tell g c = λ majors st from.
    let f = form_of c.args.form.now in
    let o = c.args.options.now in
    let p = err_from_is_err_and c.from_residual.result c.from_residual.ensures.1 in
    untold_exit f o (Unit {0}) (boxes_events f o majors) (told.Phase 2)
    (g.T.Teller.stands c.args.teller.now) (g.T.Teller.stands c.tell.new.self) (g.T.Teller.stopped c.tell.new.self) (g.T.Teller.faults c.args.teller.now) (g.T.Teller.faults c.tell.new.self)
    c.from_residual.result p.0 c.in_err-tell.field-0.0 p.1 p.2
    (phase_two_begins f o majors st c.args.moved c.args.tried c.requires.ready from c.requires.options.some_row) c.in_err-tell.ensures

pub phase_two-requires-clause-factor : goal.phase_two-requires-clause-factor
phase_two-requires-clause-factor g c = (
  Some (record { head = c.in-Ok.next.state.head; pivots = [] }),
  next_factor (form_of c.args.form.now) c.args.moved c.in-Ok.next.state c.in-Ok.next.factor c.in-Ok.ensures.basis c.in-Ok.ensures.factor,
)

pub phase_two-requires-clause-ready : goal.phase_two-requires-clause-ready
phase_two-requires-clause-ready g c =
    next_ready c.args.form.now c.args.options.now.limit c.args.moved c.in-Ok.next.state c.requires.ready c.in-Ok.ensures.basis c.in-Ok.ensures.solved c.in-Ok.ensures.weights c.in-Ok.ensures.pivots

pub returns-in-Ok : goal.returns-in-Ok
returns-in-Ok g c = λ majors st from.
    let f = form_of c.args.form.now in
    let o = c.args.options.now in
    told_further f o (boxes_events f o majors) (told.Phase 2 ∷ [])
    (g.T.Teller.stands c.args.teller.now) (g.T.Teller.stands c.tell.new.self) (g.T.Teller.stands c.phase_two.new.teller) (g.T.Teller.stopped c.phase_two.new.teller)
    (g.T.Teller.faults c.args.teller.now) (g.T.Teller.faults c.tell.new.self) (g.T.Teller.faults c.phase_two.new.teller) c.phase_two.result
    c.in_ok-tell.ensures.0 c.in_ok-tell.ensures.1
    (c.phase_two.ensures (boxes_events f o majors ++ told.Phase 2 ∷ []) (Some (record { head = c.in-Ok.next.state.head; pivots = [] }))
    (next_factor f c.args.moved c.in-Ok.next.state c.in-Ok.next.factor c.in-Ok.ensures.basis c.in-Ok.ensures.factor)
    (switched_leads f o majors st c.args.moved c.args.tried c.requires.ready from c.in-Ok.next.state c.in-Ok.ensures.basis c.in-Ok.ensures.weights c.in-Ok.ensures.pivots
    (λ t fresh. c.in-Ok.ensures.follows t fresh)))

pub returns-in-Err-Named : goal.returns-in-Err-Named
returns-in-Err-Named g c = λ majors st from.
    let f = form_of c.args.form.now in
    let o = c.args.options.now in
    let End : Answer → Type 0 = λ a. EndsRun f o (boxes_events f o majors) (g.T.Teller.stands c.args.teller.now) (g.T.Teller.stands c.tell.new.self) (g.T.Teller.stopped c.tell.new.self)
    (g.T.Teller.faults c.args.teller.now) (g.T.Teller.faults c.tell.new.self) (Ok a) in
    let So : Refused → Type 0 = λ x. End (answers.Overflow (record { task = spots.Switch; refused = x })) in
    subst End (sym c.overflow.ensures)
    (subst So (sym c.in-Err-Named.refused-is)
    (told_further f o (boxes_events f o majors) (told.Phase 2 ∷ [])
    (g.T.Teller.stands c.args.teller.now) (g.T.Teller.stands c.tell.new.self) (g.T.Teller.stands c.tell.new.self) (g.T.Teller.stopped c.tell.new.self)
    (g.T.Teller.faults c.args.teller.now) (g.T.Teller.faults c.tell.new.self) (g.T.Teller.faults c.tell.new.self) (Ok (answers.Overflow (record { task = spots.Switch; refused = c.in-Err-Named.refused })))
    c.in_ok-tell.ensures.0 c.in_ok-tell.ensures.1
    (unswitched f o majors st c.args.moved c.args.tried c.requires.ready from (g.T.Teller.stands c.tell.new.self) (g.T.Teller.stopped c.tell.new.self) (g.T.Teller.faults c.tell.new.self) c.in-Err-Named.refused
    (λ t fresh.
    subst (λ (x : Fault Refused). Follows {A = SwitchedState} (switch_refused f (basis_of c.args.moved) t) (Err x)) c.in-Err-Named.field-0-is (c.in-Err-Named.ensures.follows t fresh)))))

pub returns-in-Err-OutOfMemory : goal.returns-in-Err-OutOfMemory
returns-in-Err-OutOfMemory g c = λ majors st from.
    let f = form_of c.args.form.now in
    let o = c.args.options.now in
    told_further f o (boxes_events f o majors) (told.Phase 2 ∷ [])
    (g.T.Teller.stands c.args.teller.now) (g.T.Teller.stands c.tell.new.self) (g.T.Teller.stands c.tell.new.self) (g.T.Teller.stopped c.tell.new.self)
    (g.T.Teller.faults c.args.teller.now) (g.T.Teller.faults c.tell.new.self) (g.T.Teller.faults c.tell.new.self) (Err faults.OutOfMemory)
    c.in_ok-tell.ensures.0 c.in_ok-tell.ensures.1
    (short f o (boxes_events f o majors ++ told.Phase 2 ∷ []) (g.T.Teller.stands c.tell.new.self) (g.T.Teller.stopped c.tell.new.self) (g.T.Teller.faults c.tell.new.self)
    (phase_two_begins f o majors st c.args.moved c.args.tried c.requires.ready from c.requires.options.some_row))
