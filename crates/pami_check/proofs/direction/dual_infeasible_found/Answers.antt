use Rattle.std.proofs.Common.{◌∙◌, ◌∷◌, [], ◌++◌, ap, Ok, Err, None}
use Rattle.std.proofs.lemmas.Result.{err_from_is_err_and}
use Rattle.pami_algebra.specs.Operations.{is_below}
use Rattle.pami_linear.specs.Lists.{get}
use Rattle.pami_model.specs.Contents.{contents}
use Rattle.pami_model_form.specs.ModelForm.{model_form}
use Rattle.pami_script.specs.Script.{then}
use Rattle.pami_theory.specs.Form.{zero_f}
use Rattle.pami_check.specs.declared.verdict.Condition.TheVariants as conditions
use Rattle.pami_check.specs.Tests.{tested, plain}
use Rattle.pami_check.specs.Verdict.{cone, point_tests, cost_test}
use Rattle.pami_check.proofs.Tested.{step_goes, step_stops}
use Rattle.pami_check.proofs.Parts.{cost_same}
use Rattle.pami_check.proofs.direction.dual_infeasible_found.Goals as goal

pub returns-in_err-point_found : goal.returns-in_err-point_found
returns-in_err-point_found c =
    let p = err_from_is_err_and c.from_residual.result c.from_residual.ensures.1 in
    let f = model_form (contents c.args.model.now) in
    let z = get (c.args.x.now ++ c.args.r.now) in
    p.1 ∙ ap Err p.2 ∙ step_stops (point_tests f cone z) (cost_test f z ∷ []) tt c.in_err-point_found.field-0.0 c.in_err-point_found.ensures

pub returns : goal.returns
returns c =
    let m = contents c.args.model.now in
    let f = model_form m in
    let z = get (c.args.x.now ++ c.args.r.now) in
    let same = cost_same m c.args.x.now c.args.r.now c.requires.columns in
    let outcome = c.cost_outcome.ensures ∙ ap (λ s. (then) s (λ t. Ok (is_below t zero_f))) same in
    step_goes (point_tests f cone z) (cost_test f z ∷ []) tt tt _ c.in_ok-point_found.ensures
    (c.judged.ensures ∙ ap (λ o. tested (plain conditions.Cost None o ∷ []) tt) outcome)
