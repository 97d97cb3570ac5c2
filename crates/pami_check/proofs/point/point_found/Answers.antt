use Rattle.std.proofs.Common.{◌∙◌, ap, Err}
use Rattle.std.proofs.lemmas.Result.{err_from_is_err_and}
use Rattle.pami_model.specs.Contents.{contents}
use Rattle.pami_model_form.specs.ModelForm.{model_form}
use Rattle.pami_check.proofs.Items.{point_goes, point_stops}
use Rattle.pami_check.proofs.point.point_found.Goals as goal

pub returns-in_err-columns_found : goal.returns-in_err-columns_found
returns-in_err-columns_found c =
    let p = err_from_is_err_and c.from_residual.result c.from_residual.ensures.1 in
    let f = model_form (contents c.args.model.now) in
    p.1 ∙ ap Err p.2 ∙ point_stops f c.args.reach c.args.x.now c.args.r.now c.in_err-columns_found.field-0.0 c.requires.columns c.in_err-columns_found.ensures

pub returns : goal.returns
returns c =
    let f = model_form (contents c.args.model.now) in
    point_goes f c.args.reach c.args.x.now c.args.r.now tt _ c.requires.columns c.in_ok-columns_found.ensures c.rows_found.ensures
