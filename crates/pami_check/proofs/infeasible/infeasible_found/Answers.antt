use Rattle.std.proofs.Common.{◌∙◌, ◌∷◌, [], ◌++◌, sym, ap, Err}
use Rattle.std.proofs.lemmas.Result.{err_from_is_err_and}
use Rattle.pami_algebra.specs.Operations.{is_below}
use Rattle.pami_linear.specs.Lists.{get}
use Rattle.pami_model.specs.Contents.{contents}
use Rattle.pami_model_form.specs.ModelForm.{model_form}
use Rattle.pami_theory.specs.Form.{zero_f}
use Rattle.pami_check.specs.Verdict.{positive_test, finite_rows, finite_columns}
use Rattle.pami_check.proofs.Tested.{step_goes, step_stops}
use Rattle.pami_check.proofs.Parts.{infeasible_parts, positive_passes, positive_fails}
use Rattle.pami_check.proofs.infeasible.infeasible_found.Goals as goal

pub returns-in_err-total : goal.returns-in_err-total
returns-in_err-total c =
    let p = err_from_is_err_and c.from_residual.result c.from_residual.ensures.1 in
    let f = model_form (contents c.args.model.now) in
    let y = get c.args.y.now in
    p.1 ∙ ap Err p.2
    ∙ step_stops (finite_rows f y ++ finite_columns f y) (positive_test ∷ []) zero_f c.in_err-total.field-0.0 c.in_err-total.ensures
    ∙ infeasible_parts f y zero_f

pub returns-then-is_below : goal.returns-then-is_below
returns-then-is_below c =
    let f = model_form (contents c.args.model.now) in
    let y = get c.args.y.now in
    let s = c.in_ok-total.total in
    let test = sym (c.is_below.ensures ∙ ap (λ z. is_below z s) c.zero.ensures) ∙ c.if-is_below.true in
    step_goes (finite_rows f y ++ finite_columns f y) (positive_test ∷ []) zero_f s _ c.in_ok-total.ensures (positive_passes s test)
    ∙ infeasible_parts f y zero_f

pub returns-else-is_below : goal.returns-else-is_below
returns-else-is_below c =
    let f = model_form (contents c.args.model.now) in
    let y = get c.args.y.now in
    let s = c.in_ok-total.total in
    let test = sym (c.is_below.ensures ∙ ap (λ z. is_below z s) c.zero.ensures) ∙ c.if-is_below.false in
    step_goes (finite_rows f y ++ finite_columns f y) (positive_test ∷ []) zero_f s _ c.in_ok-total.ensures (positive_fails s test)
    ∙ infeasible_parts f y zero_f
