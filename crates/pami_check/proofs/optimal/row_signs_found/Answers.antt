use Rattle.std.proofs.Common.{◌∙◌, ◌<◌, ◌∷◌, [], sym, ap, length, subst, Err, ◌+◌}
use Rattle.std.proofs.lemmas.Result.{err_from_is_err_and}
use Rattle.pami_linear.specs.Lists.{get}
use Rattle.pami_model.specs.Contents.{contents}
use Rattle.pami_model_form.specs.ModelForm.{model_form}
use Rattle.pami_script.proofs.Loops.{get_is}
use Rattle.pami_check.specs.Lists.{row_sign}
use Rattle.pami_check.proofs.Read.{at_place}
use Rattle.pami_check.proofs.Parts.{row_sign_item}
use Rattle.pami_check.proofs.Tested.{loop_goes, loop_stops}
use Rattle.pami_check.proofs.optimal.row_signs_found.Goals as goal

pub returns-in_err-sign_found : goal.returns-in_err-sign_found
returns-in_err-sign_found c =
    let p = err_from_is_err_and c.from_residual.result c.from_residual.ensures.1 in
    let m = contents c.args.model.now in
    let f = model_form m in
    let i = c.loop-i.i in
    let rows = c.as_slice-rows.result.now in
    let row = c.index-rows-i.result in
    let h = at_place rows m.rows i row c.as_slice-rows.ensures c.loop-i-test.true c.index-rows-i.is in
    let n = ap length c.as_slice-rows.ensures in
    let r = get_is c.args.r.now i c.index-r-i.result (subst (λ k. i < k) (n ∙ sym c.requires.values) c.loop-i-test.true) c.index-r-i.is in
    let y = get_is c.args.y.now i c.index-y-i.result (subst (λ k. i < k) (n ∙ sym c.requires.dual) c.loop-i-test.true) c.index-y-i.is in
    let v = ap (λ cs. length cs + i) c.as_slice-count.ensures in
    let rs = get c.args.r.now in
    let ys = get c.args.y.now in
    let item = row_sign_item m i (length c.as_slice-count.result.now + i) row rs ys c.index-r-i.result c.index-y-i.result h v r y in
    p.1 ∙ ap Err p.2
    ∙ loop_stops _ i (length rows) (λ i. row_sign f rs ys i ∷ []) tt c.in_err-sign_found.field-0.0 c.loop-i.invariant c.loop-i-test.true
    (sym (c.in_err-sign_found.ensures ∙ item))

pub loop-i-preserved : goal.loop-i-preserved
loop-i-preserved c =
    let m = contents c.args.model.now in
    let f = model_form m in
    let i = c.loop-i.i in
    let rows = c.as_slice-rows.result.now in
    let row = c.index-rows-i.result in
    let h = at_place rows m.rows i row c.as_slice-rows.ensures c.loop-i-test.true c.index-rows-i.is in
    let n = ap length c.as_slice-rows.ensures in
    let r = get_is c.args.r.now i c.index-r-i.result (subst (λ k. i < k) (n ∙ sym c.requires.values) c.loop-i-test.true) c.index-r-i.is in
    let y = get_is c.args.y.now i c.index-y-i.result (subst (λ k. i < k) (n ∙ sym c.requires.dual) c.loop-i-test.true) c.index-y-i.is in
    let v = ap (λ cs. length cs + i) c.as_slice-count.ensures in
    let rs = get c.args.r.now in
    let ys = get c.args.y.now in
    let item = row_sign_item m i (length c.as_slice-count.result.now + i) row rs ys c.index-r-i.result c.index-y-i.result h v r y in
    loop_goes _ i (length rows) (λ i. row_sign f rs ys i ∷ []) tt tt c.loop-i.invariant c.loop-i-test.true
    (sym (c.in_ok-sign_found.ensures ∙ item))
