use Rattle.std.proofs.Common.{[], None, Ok, subst, arith}
use Rattle.std.proofs.lemmas.Result.{err_from_is_err_and}
use Rattle.pami_theory.specs.Boxes.{boxes_of}
use Rattle.pami_theory.proofs.Boxed.{boxes_start}
use Rattle.pami_state.proofs.Formed.{has_bounds}
use Rattle.pami_form.specs.FormOf.{form_of}
use Rattle.pami_major.specs.declared.walk.WalkEnd.{WalkEnd}
use Rattle.pami_major.specs.EndsMajor.{walk_state}
use Rattle.pami_major.specs.Walks.{EndsSo}
use Rattle.pami_phase.proofs.Starting.{start_ready}
use Rattle.pami_phase.proofs.BoxesEnds.{never_stuck, limit_early, overflow_early, fault_exit, optimal_on}
use Rattle.pami_phase.proofs.stages.walk_boxes.Goals as goal

pub drive-requires-clause-factor : goal.drive-requires-clause-factor
drive-requires-clause-factor g c = (None, tt)

pub drive-requires-clause-ready : goal.drive-requires-clause-ready
drive-requires-clause-ready g c =
    let form = c.args.form.now in
    start_ready c.args.boxes c.args.options.now.limit (boxes_of (form_of form)) c.args.first c.requires.boxes c.requires.start
    (boxes_start (form_of form) (has_bounds form.columns form.bounds form.costs form.kept.form).by_variable)

pub returns-in_err-end : goal.returns-in_err-end
returns-in_err-end g c = λ starts.
    let p = err_from_is_err_and c.from_residual.result c.from_residual.ensures.1 in
    fault_exit c.args.form.now c.args.boxes c.args.options.now c.args.first c.drive.new.state c.drive.new.factor c.drive.new.tried
    (g.T.Teller.stands c.args.teller.now) (g.T.Teller.stands c.drive.new.teller) (g.T.Teller.stopped c.drive.new.teller) (g.T.Teller.faults c.args.teller.now) (g.T.Teller.faults c.drive.new.teller)
    c.requires.boxes c.requires.start starts c.from_residual.result p.0 c.in_err-end.field-0.0 p.1 p.2 c.requires.options.some_row (c.in_err-end.ensures.walked None tt)

pub unreachable-requires : goal.unreachable-requires
unreachable-requires g c =
    let So : WalkEnd → Type 0 = λ e. EndsSo c.args.boxes c.args.options.now 0 (walk_state c.args.first None) [] c.drive.new.state c.drive.new.factor c.drive.new.tried
    (g.T.Teller.stands c.args.teller.now) (g.T.Teller.stands c.drive.new.teller) (g.T.Teller.stopped c.drive.new.teller) (g.T.Teller.faults c.args.teller.now) (g.T.Teller.faults c.drive.new.teller) (Ok e) in
    never_stuck c.args.form.now c.args.boxes c.args.options.now c.args.first c.drive.new.state c.drive.new.factor c.drive.new.tried
    (g.T.Teller.stands c.args.teller.now) (g.T.Teller.stands c.drive.new.teller) (g.T.Teller.stopped c.drive.new.teller) (g.T.Teller.faults c.args.teller.now) (g.T.Teller.faults c.drive.new.teller)
    c.requires.boxes c.requires.start _ _ _ (subst So c.in-NoEntering.is (c.in_ok-end.ensures.walked None tt))

pub answer_behind_boxes-requires-clause-ready : goal.answer_behind_boxes-requires-clause-ready
answer_behind_boxes-requires-clause-ready g c = (c.in_ok-end.ensures.walked None tt).1.ready

pub answer_behind_boxes-requires-clause-number : goal.answer_behind_boxes-requires-clause-number
answer_behind_boxes-requires-clause-number g c =
    let few = c.in_ok-end.ensures.few in
    let limit = c.requires.options.limit in
    omega arith

pub returns-in-Optimal : goal.returns-in-Optimal
returns-in-Optimal g c = λ starts.
    let So : WalkEnd → Type 0 = λ e. EndsSo c.args.boxes c.args.options.now 0 (walk_state c.args.first None) [] c.drive.new.state c.drive.new.factor c.drive.new.tried
    (g.T.Teller.stands c.args.teller.now) (g.T.Teller.stands c.drive.new.teller) (g.T.Teller.stopped c.drive.new.teller) (g.T.Teller.faults c.args.teller.now) (g.T.Teller.faults c.drive.new.teller) (Ok e) in
    optimal_on c.args.form.now c.args.boxes c.args.options.now c.args.first c.drive.new.state c.drive.new.factor c.drive.new.tried
    (g.T.Teller.stands c.args.teller.now) (g.T.Teller.stands c.drive.new.teller) (g.T.Teller.stopped c.drive.new.teller) (g.T.Teller.faults c.args.teller.now) (g.T.Teller.faults c.drive.new.teller)
    c.requires.boxes c.requires.start starts (g.T.Teller.faults c.answer_behind_boxes.new.teller) (g.T.Teller.stands c.answer_behind_boxes.new.teller) (g.T.Teller.stopped c.answer_behind_boxes.new.teller) c.answer_behind_boxes.result
    (subst So c.in-Optimal.is (c.in_ok-end.ensures.walked None tt)) c.answer_behind_boxes.ensures

pub returns-in-Limit : goal.returns-in-Limit
returns-in-Limit g c = λ starts.
    let So : WalkEnd → Type 0 = λ e. EndsSo c.args.boxes c.args.options.now 0 (walk_state c.args.first None) [] c.drive.new.state c.drive.new.factor c.drive.new.tried
    (g.T.Teller.stands c.args.teller.now) (g.T.Teller.stands c.drive.new.teller) (g.T.Teller.stopped c.drive.new.teller) (g.T.Teller.faults c.args.teller.now) (g.T.Teller.faults c.drive.new.teller) (Ok e) in
    limit_early c.args.form.now c.args.boxes c.args.options.now c.args.first c.drive.new.state c.drive.new.factor c.drive.new.tried
    (g.T.Teller.stands c.args.teller.now) (g.T.Teller.stands c.drive.new.teller) (g.T.Teller.stopped c.drive.new.teller) (g.T.Teller.faults c.args.teller.now) (g.T.Teller.faults c.drive.new.teller)
    c.requires.boxes c.requires.start starts (subst So c.in-Limit.is (c.in_ok-end.ensures.walked None tt))

pub returns-in-Overflow : goal.returns-in-Overflow
returns-in-Overflow g c = λ starts.
    let So : WalkEnd → Type 0 = λ e. EndsSo c.args.boxes c.args.options.now 0 (walk_state c.args.first None) [] c.drive.new.state c.drive.new.factor c.drive.new.tried
    (g.T.Teller.stands c.args.teller.now) (g.T.Teller.stands c.drive.new.teller) (g.T.Teller.stopped c.drive.new.teller) (g.T.Teller.faults c.args.teller.now) (g.T.Teller.faults c.drive.new.teller) (Ok e) in
    overflow_early c.args.form.now c.args.boxes c.args.options.now c.args.first c.drive.new.state c.drive.new.factor c.drive.new.tried
    (g.T.Teller.stands c.args.teller.now) (g.T.Teller.stands c.drive.new.teller) (g.T.Teller.stopped c.drive.new.teller) (g.T.Teller.faults c.args.teller.now) (g.T.Teller.faults c.drive.new.teller)
    c.requires.boxes c.requires.start starts c.in-Overflow.place (subst So c.in-Overflow.is (c.in_ok-end.ensures.walked None tt))
