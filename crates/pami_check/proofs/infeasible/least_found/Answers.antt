use Rattle.std.proofs.Common.{◌∙◌, ap, Err}
use Rattle.std.proofs.lemmas.Result.{err_from_is_err_and}
use Rattle.pami_linear.specs.Lists.{get}
use Rattle.pami_model.specs.Contents.{contents}
use Rattle.pami_model_form.specs.ModelForm.{model_form}
use Rattle.pami_theory.specs.Form.{zero_f}
use Rattle.pami_check.specs.Verdict.{finite_rows, finite_columns}
use Rattle.pami_check.proofs.Tested.{step_goes, step_stops}
use Rattle.pami_check.proofs.infeasible.least_found.Goals as goal

pub returns-in_err-total : goal.returns-in_err-total
returns-in_err-total c =
    let p = err_from_is_err_and c.from_residual.result c.from_residual.ensures.1 in
    let f = model_form (contents c.args.model.now) in
    let y = get c.args.y.now in
    p.1 ∙ ap Err p.2 ∙ step_stops (finite_rows f y) (finite_columns f y) zero_f c.in_err-total.field-0.0 c.in_err-total.ensures

pub returns : goal.returns
returns c =
    let f = model_form (contents c.args.model.now) in
    let y = get c.args.y.now in
    step_goes (finite_rows f y) (finite_columns f y) zero_f c.in_ok-total.total _ c.in_ok-total.ensures c.columns_least.ensures
