use Rattle.std.proofs.Common.{◌∙◌, ap, Err}
use Rattle.std.proofs.lemmas.Result.{err_from_is_err_and}
use Rattle.pami_linear.specs.Lists.{get}
use Rattle.pami_model.specs.Contents.{contents}
use Rattle.pami_model_form.specs.ModelForm.{model_form}
use Rattle.pami_check.specs.Tests.{tested}
use Rattle.pami_check.specs.Lists.{column_signs, row_signs}
use Rattle.pami_check.proofs.Tested.{step_goes, step_stops}
use Rattle.pami_check.proofs.Parts.{sign_parts}
use Rattle.pami_check.proofs.optimal.signs_found.Goals as goal

pub returns-in_err-column_signs_found : goal.returns-in_err-column_signs_found
returns-in_err-column_signs_found c =
    let p = err_from_is_err_and c.from_residual.result c.from_residual.ensures.1 in
    let f = model_form (contents c.args.model.now) in
    let a = c.args in
    let columns = column_signs f (get a.x.now) (get a.d.now) in
    p.1 ∙ ap Err p.2
    ∙ step_stops columns (row_signs f (get a.r.now) (get a.y.now)) tt c.in_err-column_signs_found.field-0.0 c.in_err-column_signs_found.ensures
    ∙ ap (λ ts. tested ts tt) (sign_parts f a.x.now a.d.now a.r.now a.y.now c.requires.values c.requires.reduced)

pub returns : goal.returns
returns c =
    let f = model_form (contents c.args.model.now) in
    let a = c.args in
    let columns = column_signs f (get a.x.now) (get a.d.now) in
    step_goes columns (row_signs f (get a.r.now) (get a.y.now)) tt tt _ c.in_ok-column_signs_found.ensures c.row_signs_found.ensures
    ∙ ap (λ ts. tested ts tt) (sign_parts f a.x.now a.d.now a.r.now a.y.now c.requires.values c.requires.reduced)
