use Rattle.std.proofs.Common.{[], Ok, ap, ◌∙◌, subst}
use Rattle.pami_theory.specs.declared.words.Side.{Side}
use Rattle.pami_method.specs.Phases.{ray}
use Rattle.pami_major.specs.declared.walk.WalkEnd.{WalkEnd}
use Rattle.pami_major.specs.EndsMajor.{walk_state}
use Rattle.pami_major.specs.Walks.{EndsSo}
use Rattle.pami_phase.proofs.WalkAnswers.{optimal_arm, limit_arm, infeasible_arm, overflow_arm, short_arm, fault_arm}
use Rattle.pami_phase.proofs.stages.phase_two.Goals as goal

pub returns-in-Ok-Optimal : goal.returns-in-Ok-Optimal
returns-in-Ok-Optimal g c = λ before history has leads.
    let So : WalkEnd → Type 0 = λ e. EndsSo c.args.form.now c.args.options.now c.args.tried (walk_state c.args.first history) [] c.drive.new.state c.drive.new.factor c.drive.new.tried
    (g.T.Teller.stands c.args.teller.now) (g.T.Teller.stands c.drive.new.teller) (g.T.Teller.stopped c.drive.new.teller) (g.T.Teller.faults c.args.teller.now) (g.T.Teller.faults c.drive.new.teller) (Ok e) in
    optimal_arm c.args.form.now c.args.options.now c.args.tried c.args.first c.drive.new.state history c.drive.new.factor c.drive.new.tried
    (g.T.Teller.stands c.args.teller.now) (g.T.Teller.stands c.drive.new.teller) (g.T.Teller.stopped c.drive.new.teller) (g.T.Teller.faults c.args.teller.now) (g.T.Teller.faults c.drive.new.teller) before c.requires.ready leads
    (subst So c.in-Ok-Optimal.field-0-is (c.in-Ok-Optimal.ensures.walked history has))

pub returns-in-Ok-Limit : goal.returns-in-Ok-Limit
returns-in-Ok-Limit g c = λ before history has leads.
    let So : WalkEnd → Type 0 = λ e. EndsSo c.args.form.now c.args.options.now c.args.tried (walk_state c.args.first history) [] c.drive.new.state c.drive.new.factor c.drive.new.tried
    (g.T.Teller.stands c.args.teller.now) (g.T.Teller.stands c.drive.new.teller) (g.T.Teller.stopped c.drive.new.teller) (g.T.Teller.faults c.args.teller.now) (g.T.Teller.faults c.drive.new.teller) (Ok e) in
    limit_arm c.args.form.now c.args.options.now c.args.tried c.args.first c.drive.new.state history c.drive.new.factor c.drive.new.tried
    (g.T.Teller.stands c.args.teller.now) (g.T.Teller.stands c.drive.new.teller) (g.T.Teller.stopped c.drive.new.teller) (g.T.Teller.faults c.args.teller.now) (g.T.Teller.faults c.drive.new.teller) before c.requires.ready leads
    (subst So c.in-Ok-Limit.field-0-is (c.in-Ok-Limit.ensures.walked history has))

pub returns-in-Ok : goal.returns-in-Ok
returns-in-Ok g c = λ before history has leads.
    let So : WalkEnd → Type 0 = λ e. EndsSo c.args.form.now c.args.options.now c.args.tried (walk_state c.args.first history) [] c.drive.new.state c.drive.new.factor c.drive.new.tried
    (g.T.Teller.stands c.args.teller.now) (g.T.Teller.stands c.drive.new.teller) (g.T.Teller.stopped c.drive.new.teller) (g.T.Teller.faults c.args.teller.now) (g.T.Teller.faults c.drive.new.teller) (Ok e) in
    infeasible_arm c.args.form.now c.args.options.now c.args.tried c.args.first c.drive.new.state history c.drive.new.factor c.drive.new.tried
    (g.T.Teller.stands c.args.teller.now) (g.T.Teller.stands c.drive.new.teller) (g.T.Teller.stopped c.drive.new.teller) (g.T.Teller.faults c.args.teller.now) (g.T.Teller.faults c.drive.new.teller) before c.requires.ready leads _ _ _ c.in-Ok.y
    (c.in-Ok.ensures ∙ ap (λ (s : Side). ray s c.in-Ok-NoEntering.rho) c.in-Ok-NoEntering.side-is ∙ ap (ray _) c.in-Ok-NoEntering.rho-is)
    (subst So c.in-Ok-NoEntering.field-0-is (c.in-Ok-NoEntering.ensures.walked history has))

pub returns-in-Ok-NoEntering : goal.returns-in-Ok-NoEntering
returns-in-Ok-NoEntering g c = λ before history has leads.
    let So : WalkEnd → Type 0 = λ e. EndsSo c.args.form.now c.args.options.now c.args.tried (walk_state c.args.first history) [] c.drive.new.state c.drive.new.factor c.drive.new.tried
    (g.T.Teller.stands c.args.teller.now) (g.T.Teller.stands c.drive.new.teller) (g.T.Teller.stopped c.drive.new.teller) (g.T.Teller.faults c.args.teller.now) (g.T.Teller.faults c.drive.new.teller) (Ok e) in
    short_arm c.args.form.now c.args.options.now c.args.tried c.args.first c.drive.new.state history c.drive.new.factor c.drive.new.tried
    (g.T.Teller.stands c.args.teller.now) (g.T.Teller.stands c.drive.new.teller) (g.T.Teller.stopped c.drive.new.teller) (g.T.Teller.faults c.args.teller.now) (g.T.Teller.faults c.drive.new.teller) before c.requires.ready leads _
    (subst So c.in-Ok-NoEntering.field-0-is (c.in-Ok-NoEntering.ensures.walked history has))

pub returns-in-Ok-Overflow : goal.returns-in-Ok-Overflow
returns-in-Ok-Overflow g c = λ before history has leads.
    let So : WalkEnd → Type 0 = λ e. EndsSo c.args.form.now c.args.options.now c.args.tried (walk_state c.args.first history) [] c.drive.new.state c.drive.new.factor c.drive.new.tried
    (g.T.Teller.stands c.args.teller.now) (g.T.Teller.stands c.drive.new.teller) (g.T.Teller.stopped c.drive.new.teller) (g.T.Teller.faults c.args.teller.now) (g.T.Teller.faults c.drive.new.teller) (Ok e) in
    overflow_arm c.args.form.now c.args.options.now c.args.tried c.args.first c.drive.new.state history c.drive.new.factor c.drive.new.tried
    (g.T.Teller.stands c.args.teller.now) (g.T.Teller.stands c.drive.new.teller) (g.T.Teller.stopped c.drive.new.teller) (g.T.Teller.faults c.args.teller.now) (g.T.Teller.faults c.drive.new.teller) before c.requires.ready leads c.in-Ok-Overflow.place
    (subst So c.in-Ok-Overflow.field-0-is (c.in-Ok-Overflow.ensures.walked history has))

pub returns : goal.returns
returns g c = λ before history has leads.
    fault_arm c.args.form.now c.args.options.now c.args.tried c.args.first c.drive.new.state history c.drive.new.factor c.drive.new.tried
    (g.T.Teller.stands c.args.teller.now) (g.T.Teller.stands c.drive.new.teller) (g.T.Teller.stopped c.drive.new.teller) (g.T.Teller.faults c.args.teller.now) (g.T.Teller.faults c.drive.new.teller) before c.requires.ready leads c.in-Err.fault (c.in-Err.ensures.walked history has)
