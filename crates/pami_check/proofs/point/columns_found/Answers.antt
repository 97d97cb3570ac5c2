use Rattle.std.proofs.Common.{◌∙◌, ◌<◌, ◌∷◌, [], sym, ap, length, subst, Err}
use Rattle.std.proofs.lemmas.Result.{err_from_is_err_and}
use Rattle.pami_linear.specs.Lists.{get}
use Rattle.pami_model.specs.Contents.{contents}
use Rattle.pami_model_form.specs.ModelForm.{model_form}
use Rattle.pami_script.proofs.Loops.{get_is}
use Rattle.pami_check.specs.Verdict.{bound_at}
use Rattle.pami_check.specs.Lists.{reached}
use Rattle.pami_check.proofs.Read.{at_place}
use Rattle.pami_check.proofs.Items.{column_item}
use Rattle.pami_check.proofs.Tested.{loop_goes, loop_stops}
use Rattle.pami_check.proofs.point.columns_found.Goals as goal

pub returns-in_err-bound_found : goal.returns-in_err-bound_found
returns-in_err-bound_found c =
    let p = err_from_is_err_and c.from_residual.result c.from_residual.ensures.1 in
    let m = contents c.args.model.now in
    let f = model_form m in
    let j = c.loop-j.j in
    let columns = c.as_slice-columns.result.now in
    let column = c.index-columns-j.result in
    let h = at_place columns m.columns j column c.as_slice-columns.ensures c.loop-j-test.true c.index-columns-j.is in
    let n = ap length c.as_slice-columns.ensures in
    let x = get_is c.args.x.now j c.index-x-j.result (subst (λ k. j < k) (n ∙ sym c.requires) c.loop-j-test.true) c.index-x-j.is in
    let item = column_item m c.args.reach (get c.args.x.now) j column c.index-x-j.result h x in
    let xs = get c.args.x.now in
    p.1 ∙ ap Err p.2
    ∙ loop_stops _ j (length columns) (λ j. bound_at f (reached c.args.reach) xs j ∷ []) tt c.in_err-bound_found.field-0.0 c.loop-j.invariant c.loop-j-test.true
    (sym (c.in_err-bound_found.ensures ∙ item))

pub loop-j-preserved : goal.loop-j-preserved
loop-j-preserved c =
    let m = contents c.args.model.now in
    let f = model_form m in
    let j = c.loop-j.j in
    let columns = c.as_slice-columns.result.now in
    let column = c.index-columns-j.result in
    let h = at_place columns m.columns j column c.as_slice-columns.ensures c.loop-j-test.true c.index-columns-j.is in
    let n = ap length c.as_slice-columns.ensures in
    let x = get_is c.args.x.now j c.index-x-j.result (subst (λ k. j < k) (n ∙ sym c.requires) c.loop-j-test.true) c.index-x-j.is in
    let item = column_item m c.args.reach (get c.args.x.now) j column c.index-x-j.result h x in
    let xs = get c.args.x.now in
    loop_goes _ j (length columns) (λ j. bound_at f (reached c.args.reach) xs j ∷ []) tt tt c.loop-j.invariant c.loop-j-test.true
    (sym (c.in_ok-bound_found.ensures ∙ item))
