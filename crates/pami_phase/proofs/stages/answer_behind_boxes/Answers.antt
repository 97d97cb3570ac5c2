use Rattle.std.proofs.Common.{◌∙◌, sym, true≢false}
use Rattle.std.proofs.lemmas.Result.{err_from_is_err_and}
use Rattle.pami_state.specs.State.{basis_of}
use Rattle.pami_form.specs.FormOf.{form_of}
use Rattle.pami_phase.specs.Runs.{boxes_events}
use Rattle.pami_phase.proofs.Further.{short_exit}
use Rattle.pami_phase.proofs.Switching.{boxes_basis, boxes_solved, moved_by, moved_stands, moved_reduced, switchable, switched_from, never_dual, ended_begins}
use Rattle.pami_phase.proofs.stages.answer_behind_boxes.Goals as goal

pub returns-in_err-moved : goal.returns-in_err-moved
returns-in_err-moved g c = λ majors st ended.
    let f = form_of c.args.form.now in
    let o = c.args.options.now in
    let p = err_from_is_err_and c.from_residual.result c.from_residual.ensures.1 in
    short_exit f o (boxes_events f o majors) (g.T.Teller.stands c.args.teller.now) (g.T.Teller.stopped c.args.teller.now) (g.T.Teller.faults c.args.teller.now) c.from_residual.result p.0 p.1 p.2
    (ended_begins f o majors st c.requires.options.some_row ended.ended)

pub can_be_dual_feasible-requires-clause-stands : goal.can_be_dual_feasible-requires-clause-stands
can_be_dual_feasible-requires-clause-stands g c = moved_stands c.args.form.now c.args.end.form c.args.options.now.limit c.args.end.state c.requires.boxes c.requires.ready c.in_ok-moved.moved c.in_ok-moved.ensures.basis c.in_ok-moved.ensures.values c.in_ok-moved.ensures.reduced c.in_ok-moved.ensures.pivots

pub can_be_dual_feasible-requires-clause-reduced : goal.can_be_dual_feasible-requires-clause-reduced
can_be_dual_feasible-requires-clause-reduced g c = moved_reduced c.args.form.now c.args.end.form c.args.options.now.limit c.args.end.state c.requires.boxes c.requires.ready c.in_ok-moved.moved c.in_ok-moved.ensures.basis c.in_ok-moved.ensures.values c.in_ok-moved.ensures.reduced c.in_ok-moved.ensures.pivots

pub answer_behind_switch-requires-clause-ready : goal.answer_behind_switch-requires-clause-ready
answer_behind_switch-requires-clause-ready g c =
    switchable c.args.form.now c.args.end.form c.args.options.now.limit c.args.end.state c.requires.boxes c.requires.ready c.in_ok-moved.moved c.in_ok-moved.ensures.basis c.in_ok-moved.ensures.values c.in_ok-moved.ensures.reduced c.in_ok-moved.ensures.pivots
    ((c.can_be_dual_feasible.ensures (basis_of c.args.end.state) (boxes_solved c.args.form.now c.args.end.form c.args.options.now.limit c.args.end.state c.requires.boxes c.requires.ready).fresh (boxes_basis c.args.form.now c.args.end.form c.args.options.now.limit c.args.end.state c.requires.boxes c.requires.ready) (boxes_solved c.args.form.now c.args.end.form c.args.options.now.limit c.args.end.state c.requires.boxes c.requires.ready).solved
    (moved_by c.args.form.now c.args.end.form c.args.options.now.limit c.args.end.state c.requires.boxes c.requires.ready c.in_ok-moved.moved c.in_ok-moved.ensures.basis c.in_ok-moved.ensures.values c.in_ok-moved.ensures.reduced c.in_ok-moved.ensures.pivots)
    (c.in_ok-moved.ensures.reduced ∙ (boxes_solved c.args.form.now c.args.end.form c.args.options.now.limit c.args.end.state c.requires.boxes c.requires.ready).reduced)).0 c.if-can_be_dual_feasible.true)

pub returns-then-can_be_dual_feasible : goal.returns-then-can_be_dual_feasible
returns-then-can_be_dual_feasible g c = λ majors st ended.
    c.answer_behind_switch.ensures majors st
    (switched_from c.args.form.now c.args.end.form c.args.options.now.limit c.args.end.state c.requires.boxes c.requires.ready c.in_ok-moved.moved c.in_ok-moved.ensures.basis c.in_ok-moved.ensures.values c.in_ok-moved.ensures.reduced c.in_ok-moved.ensures.pivots c.args.options.now majors st c.args.end.tried ended
    ((c.can_be_dual_feasible.ensures (basis_of c.args.end.state) (boxes_solved c.args.form.now c.args.end.form c.args.options.now.limit c.args.end.state c.requires.boxes c.requires.ready).fresh (boxes_basis c.args.form.now c.args.end.form c.args.options.now.limit c.args.end.state c.requires.boxes c.requires.ready) (boxes_solved c.args.form.now c.args.end.form c.args.options.now.limit c.args.end.state c.requires.boxes c.requires.ready).solved
    (moved_by c.args.form.now c.args.end.form c.args.options.now.limit c.args.end.state c.requires.boxes c.requires.ready c.in_ok-moved.moved c.in_ok-moved.ensures.basis c.in_ok-moved.ensures.values c.in_ok-moved.ensures.reduced c.in_ok-moved.ensures.pivots)
    (c.in_ok-moved.ensures.reduced ∙ (boxes_solved c.args.form.now c.args.end.form c.args.options.now.limit c.args.end.state c.requires.boxes c.requires.ready).reduced)).0 c.if-can_be_dual_feasible.true))

pub returns : goal.returns
returns g c = λ majors st ended.
    never_dual c.args.form.now c.args.end.form c.args.options.now.limit c.args.end.state c.requires.boxes c.requires.ready c.in_ok-moved.moved c.in_ok-moved.ensures.basis c.in_ok-moved.ensures.values c.in_ok-moved.ensures.reduced c.in_ok-moved.ensures.pivots c.args.options.now majors st c.args.end.tried ended
    (g.T.Teller.stands c.args.teller.now) (g.T.Teller.stopped c.args.teller.now) (g.T.Teller.faults c.args.teller.now)
    (λ can. true≢false (sym ((c.can_be_dual_feasible.ensures (basis_of c.args.end.state) (boxes_solved c.args.form.now c.args.end.form c.args.options.now.limit c.args.end.state c.requires.boxes c.requires.ready).fresh (boxes_basis c.args.form.now c.args.end.form c.args.options.now.limit c.args.end.state c.requires.boxes c.requires.ready) (boxes_solved c.args.form.now c.args.end.form c.args.options.now.limit c.args.end.state c.requires.boxes c.requires.ready).solved
    (moved_by c.args.form.now c.args.end.form c.args.options.now.limit c.args.end.state c.requires.boxes c.requires.ready c.in_ok-moved.moved c.in_ok-moved.ensures.basis c.in_ok-moved.ensures.values c.in_ok-moved.ensures.reduced c.in_ok-moved.ensures.pivots)
    (c.in_ok-moved.ensures.reduced ∙ (boxes_solved c.args.form.now c.args.end.form c.args.options.now.limit c.args.end.state c.requires.boxes c.requires.ready).reduced)).1 can) ∙ c.if-can_be_dual_feasible.false))
