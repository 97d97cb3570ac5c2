use Rattle.std.proofs.Common.{sym, ◌∙◌, subst, rules}
use Rattle.std.proofs.lemmas.Result.{on_ok_weaker}
use Rattle.pami_model.specs.Contents.{contents}
use Rattle.pami_theory.specs.Boxes.{boxes_of}
use Rattle.pami_state.specs.Columns.{HasBounds}
use Rattle.pami_phase.specs.Runs.{IsAnswerOf}
use Rattle.pami_model_form.specs.ModelForm.{model_form}
use Rattle.pami_cli.specs.Solved.{IsReadable}
use Rattle.pami_cli.proofs.Told.{model_bounds}
use Rattle.pami_cli.proofs.Listed.{optimal_read, boxes_read, read_values, read_basis, boxes_bounds, optimal_lines_are, dual_infeasible_lines_are, optimal_certified, infeasible_certified, dual_infeasible_certified, limit_certified, overflow_certified}
use Rattle.pami_cli.proofs.answer.push_answer.Goals as goal

pub values-requires-clause-values : goal.values-requires-clause-values
values-requires-clause-values c =
    let m = contents c.args.model.now in
    let f = model_form m in
    let st = c.in-Optimal.state in
    read_values f c.args.form.now.bounds st (model_bounds m c.args.form.now c.requires.form) (optimal_read f st c.in-Optimal.factor (subst (IsReadable f) c.in-Optimal.is c.requires.readable))

pub values-requires-clause-basis : goal.values-requires-clause-basis
values-requires-clause-basis c =
    let m = contents c.args.model.now in
    let f = model_form m in
    let st = c.in-Optimal.state in
    read_basis f c.as_slice.result.now st (subst (HasBounds f) (sym c.as_slice.ensures) (model_bounds m c.args.form.now c.requires.form))
    (optimal_read f st c.in-Optimal.factor (subst (IsReadable f) c.in-Optimal.is c.requires.readable))

pub values-requires-in-DualInfeasible-clause-values : goal.values-requires-in-DualInfeasible-clause-values
values-requires-in-DualInfeasible-clause-values c =
    let f = model_form (contents c.args.model.now) in
    let st = c.in-DualInfeasible.state in
    let boxes = c.in-DualInfeasible.form in
    let r = boxes_read f st boxes (subst (IsReadable f) c.in-DualInfeasible.is c.requires.readable) in
    read_values (boxes_of f) boxes.bounds st (boxes_bounds f boxes r.1) r.0

pub values-requires-in-DualInfeasible-clause-basis : goal.values-requires-in-DualInfeasible-clause-basis
values-requires-in-DualInfeasible-clause-basis c =
    let f = model_form (contents c.args.model.now) in
    let st = c.in-DualInfeasible.state in
    let boxes = c.in-DualInfeasible.form in
    let r = boxes_read f st boxes (subst (IsReadable f) c.in-DualInfeasible.is c.requires.readable) in
    read_basis (boxes_of f) c.as_slice-in-DualInfeasible.result.now st (subst (HasBounds (boxes_of f)) (sym c.as_slice-in-DualInfeasible.ensures) (boxes_bounds f boxes r.1)) r.0

pub returns-in_ok-values-in-Optimal-clause-lines : goal.returns-in_ok-values-in-Optimal-clause-lines
returns-in_ok-values-in-Optimal-clause-lines c =
    let m = contents c.args.model.now in
    let f = model_form m in
    let st = c.in-Optimal.state in
    let has = subst (HasBounds f) (sym c.as_slice.ensures) (model_bounds m c.args.form.now c.requires.form) in
    on_ok_weaker c.push_optimal.result
    (λ p. λ a l.
    optimal_lines_are m c.args.out.now.items c.push_optimal.new.out.items st c.in-Optimal.factor c.as_slice-in-Optimal.result.now (λ s. c.as_slice-in-Optimal.ensures ∙ c.in_ok-values-in-Optimal.ensures.solved f has s) p a
    (subst (λ x. IsAnswerOf f x a) c.in-Optimal.is l))
    c.push_optimal.ensures.printed

pub returns-in_ok-values-in-DualInfeasible-clause-lines : goal.returns-in_ok-values-in-DualInfeasible-clause-lines
returns-in_ok-values-in-DualInfeasible-clause-lines c =
    let m = contents c.args.model.now in
    let f = model_form m in
    let st = c.in-DualInfeasible.state in
    let boxes = c.in-DualInfeasible.form in
    let r = boxes_read f st boxes (subst (IsReadable f) c.in-DualInfeasible.is c.requires.readable) in
    let has = subst (HasBounds (boxes_of f)) (sym c.as_slice-in-DualInfeasible.ensures) (boxes_bounds f boxes r.1) in
    on_ok_weaker c.push_dual_infeasible.result
    (λ p. λ a l.
    dual_infeasible_lines_are m c.args.out.now.items c.push_dual_infeasible.new.out.items st boxes c.as_slice-in-DualInfeasible-2.result.now
    (λ s. c.as_slice-in-DualInfeasible-2.ensures ∙ c.in_ok-values-in-DualInfeasible.ensures.solved (boxes_of f) has s) p a
    (subst (λ x. IsAnswerOf f x a) c.in-DualInfeasible.is l))
    c.push_dual_infeasible.ensures.printed

pub returns-in_ok-values-in-Optimal-clause-certified : goal.returns-in_ok-values-in-Optimal-clause-certified
returns-in_ok-values-in-Optimal-clause-certified c =
    let m = contents c.args.model.now in
    let f = model_form m in
    let st = c.in-Optimal.state in
    let has = subst (HasBounds f) (sym c.as_slice.ensures) (model_bounds m c.args.form.now c.requires.form) in
    on_ok_weaker c.push_optimal.result
    (λ fits. λ a l.
    optimal_certified m st c.in-Optimal.factor c.as_slice-in-Optimal.result.now (λ s. c.as_slice-in-Optimal.ensures ∙ c.in_ok-values-in-Optimal.ensures.solved f has s)
    (search rules) (search rules) fits a (subst (λ x. IsAnswerOf f x a) c.in-Optimal.is l))
    c.push_optimal.ensures.fits

pub returns-in-Infeasible-clause-certified : goal.returns-in-Infeasible-clause-certified
returns-in-Infeasible-clause-certified c =
    let m = contents c.args.model.now in
    on_ok_weaker c.push_infeasible.result
    (λ fits. λ a l. infeasible_certified m c.in-Infeasible.y (search rules) fits a (subst (λ x. IsAnswerOf (model_form m) x a) c.in-Infeasible.is l))
    c.push_infeasible.ensures.fits

pub returns-in_ok-values-in-DualInfeasible-clause-certified : goal.returns-in_ok-values-in-DualInfeasible-clause-certified
returns-in_ok-values-in-DualInfeasible-clause-certified c =
    let m = contents c.args.model.now in
    let f = model_form m in
    let st = c.in-DualInfeasible.state in
    let boxes = c.in-DualInfeasible.form in
    let r = boxes_read f st boxes (subst (IsReadable f) c.in-DualInfeasible.is c.requires.readable) in
    let has = subst (HasBounds (boxes_of f)) (sym c.as_slice-in-DualInfeasible.ensures) (boxes_bounds f boxes r.1) in
    on_ok_weaker c.push_dual_infeasible.result
    (λ fits. λ a l.
    dual_infeasible_certified m st boxes c.as_slice-in-DualInfeasible-2.result.now
    (λ s. c.as_slice-in-DualInfeasible-2.ensures ∙ c.in_ok-values-in-DualInfeasible.ensures.solved (boxes_of f) has s)
    (search rules) fits a (subst (λ x. IsAnswerOf f x a) c.in-DualInfeasible.is l))
    c.push_dual_infeasible.ensures.fits

pub returns-in-Limit-clause-certified : goal.returns-in-Limit-clause-certified
returns-in-Limit-clause-certified c =
    let m = contents c.args.model.now in
    on_ok_weaker c.push_limit.result (λ p. λ a l. limit_certified m c.in-Limit.state a (subst (λ x. IsAnswerOf (model_form m) x a) c.in-Limit.is l)) c.push_limit.ensures

pub returns-in-Overflow-clause-certified : goal.returns-in-Overflow-clause-certified
returns-in-Overflow-clause-certified c =
    let m = contents c.args.model.now in
    on_ok_weaker c.push_overflow.result (λ p. λ a l. overflow_certified m c.in-Overflow.place a (subst (λ x. IsAnswerOf (model_form m) x a) c.in-Overflow.is l)) c.push_overflow.ensures
