use Rattle.std.proofs.Common.{◌∙◌, ◌++◌, ap, Err}
use Rattle.std.proofs.lemmas.Result.{err_from_is_err_and}
use Rattle.pami_linear.specs.Lists.{get}
use Rattle.pami_model.specs.Contents.{contents}
use Rattle.pami_model_form.specs.ModelForm.{model_form}
use Rattle.pami_check.specs.Tests.{tested}
use Rattle.pami_check.specs.Verdict.{point_tests, reduced_tests, sign_tests, objective_script, objective_tests}
use Rattle.pami_check.proofs.Tested.{step_goes, step_stops}
use Rattle.pami_check.proofs.Parts.{objective_longer}
use Rattle.pami_check.proofs.optimal.optimal_found.Goals as goal

pub returns-in_err-point_found : goal.returns-in_err-point_found
returns-in_err-point_found c =
    let p = err_from_is_err_and c.from_residual.result c.from_residual.ensures.1 in
    let m = contents c.args.model.now in
    let f = model_form m in
    let x = get (c.args.x.now ++ c.args.r.now) in
    let d = get (c.args.d.now ++ c.args.y.now) in
    let point = point_tests f (λ l. l) x in
    let reduced = reduced_tests f d in
    let signs = sign_tests f x d in
    let objective = objective_tests c.args.objective (objective_script m x) in
    p.1 ∙ ap Err p.2 ∙ step_stops point (reduced ++ (signs ++ objective)) tt c.in_err-point_found.field-0.0 c.in_err-point_found.ensures

pub returns-in_err-reduced_found : goal.returns-in_err-reduced_found
returns-in_err-reduced_found c =
    let p = err_from_is_err_and c.from_residual-in_err-reduced_found.result c.from_residual-in_err-reduced_found.ensures.1 in
    let m = contents c.args.model.now in
    let f = model_form m in
    let x = get (c.args.x.now ++ c.args.r.now) in
    let d = get (c.args.d.now ++ c.args.y.now) in
    let point = point_tests f (λ l. l) x in
    let reduced = reduced_tests f d in
    let signs = sign_tests f x d in
    let objective = objective_tests c.args.objective (objective_script m x) in
    let last = step_stops reduced (signs ++ objective) tt c.in_err-reduced_found.field-0.0 c.in_err-reduced_found.ensures in
    p.1 ∙ ap Err p.2 ∙ step_goes point (reduced ++ (signs ++ objective)) tt tt _ c.in_ok-point_found.ensures last

pub returns-in_err-signs_found : goal.returns-in_err-signs_found
returns-in_err-signs_found c =
    let p = err_from_is_err_and c.from_residual-in_err-signs_found.result c.from_residual-in_err-signs_found.ensures.1 in
    let m = contents c.args.model.now in
    let f = model_form m in
    let x = get (c.args.x.now ++ c.args.r.now) in
    let d = get (c.args.d.now ++ c.args.y.now) in
    let point = point_tests f (λ l. l) x in
    let reduced = reduced_tests f d in
    let signs = sign_tests f x d in
    let objective = objective_tests c.args.objective (objective_script m x) in
    let last = step_stops signs objective tt c.in_err-signs_found.field-0.0 c.in_err-signs_found.ensures in
    let middle = step_goes reduced (signs ++ objective) tt tt _ c.in_ok-reduced_found.ensures last in
    p.1 ∙ ap Err p.2 ∙ step_goes point (reduced ++ (signs ++ objective)) tt tt _ c.in_ok-point_found.ensures middle

pub returns : goal.returns
returns c =
    let m = contents c.args.model.now in
    let f = model_form m in
    let x = get (c.args.x.now ++ c.args.r.now) in
    let d = get (c.args.d.now ++ c.args.y.now) in
    let point = point_tests f (λ l. l) x in
    let reduced = reduced_tests f d in
    let signs = sign_tests f x d in
    let objective = objective_tests c.args.objective (objective_script m x) in
    let longer = ap (λ s. tested (objective_tests c.args.objective s) tt) (objective_longer m c.args.x.now c.args.r.now c.requires.values) in
    let last = step_goes signs objective tt tt _ c.in_ok-signs_found.ensures (c.objective_found.ensures ∙ longer) in
    let middle = step_goes reduced (signs ++ objective) tt tt _ c.in_ok-reduced_found.ensures last in
    step_goes point (reduced ++ (signs ++ objective)) tt tt _ c.in_ok-point_found.ensures middle
