use Rattle.std.proofs.Common.{◌∙◌, ◌<◌, ◌∷◌, [], sym, ap, length, subst, Err, ◌+◌}
use Rattle.std.proofs.lemmas.Result.{err_from_is_err_and}
use Rattle.pami_linear.specs.Lists.{get}
use Rattle.pami_model.specs.Contents.{contents}
use Rattle.pami_model_form.specs.ModelForm.{model_form}
use Rattle.pami_script.proofs.Loops.{get_is}
use Rattle.pami_check.specs.Verdict.{finite_row}
use Rattle.pami_check.specs.Lists.{finite}
use Rattle.pami_check.proofs.Read.{at_place}
use Rattle.pami_check.proofs.Parts.{finite_row_item}
use Rattle.pami_check.proofs.Tested.{loop_goes, loop_stops}
use Rattle.pami_check.proofs.infeasible.rows_least.Goals as goal

pub returns-in_err-total : goal.returns-in_err-total
returns-in_err-total c =
    let p = err_from_is_err_and c.from_residual.result c.from_residual.ensures.1 in
    let m = contents c.args.model.now in
    let f = model_form m in
    let i = c.loop-i.i in
    let rows = c.as_slice-rows.result.now in
    let row = c.index-rows-i.result in
    let h = at_place rows m.rows i row c.as_slice-rows.ensures c.loop-i-test.true c.index-rows-i.is in
    let n = ap length c.as_slice-rows.ensures in
    let y = get_is c.args.y.now i c.index-y-i.result (subst (λ k. i < k) (n ∙ sym c.requires) c.loop-i-test.true) c.index-y-i.is in
    let v = ap (λ cs. length cs + i) c.as_slice-count.ensures in
    let k = length c.as_slice-count.result.now + i in
    let ys = get c.args.y.now in
    let item = ap (finite k) c.row_least-outcome.ensures ∙ finite_row_item m i k row ys c.index-y-i.result c.loop-i.total h v y in
    p.1 ∙ ap Err p.2
    ∙ loop_stops _ i (length rows) (λ i. finite_row f ys i ∷ []) c.loop-i.total c.in_err-total.field-0.0 c.loop-i.invariant c.loop-i-test.true
    (sym (c.in_err-total.ensures ∙ item))

pub loop-i-preserved : goal.loop-i-preserved
loop-i-preserved c =
    let m = contents c.args.model.now in
    let f = model_form m in
    let i = c.loop-i.i in
    let rows = c.as_slice-rows.result.now in
    let row = c.index-rows-i.result in
    let h = at_place rows m.rows i row c.as_slice-rows.ensures c.loop-i-test.true c.index-rows-i.is in
    let n = ap length c.as_slice-rows.ensures in
    let y = get_is c.args.y.now i c.index-y-i.result (subst (λ k. i < k) (n ∙ sym c.requires) c.loop-i-test.true) c.index-y-i.is in
    let v = ap (λ cs. length cs + i) c.as_slice-count.ensures in
    let k = length c.as_slice-count.result.now + i in
    let ys = get c.args.y.now in
    let item = ap (finite k) c.row_least-outcome.ensures ∙ finite_row_item m i k row ys c.index-y-i.result c.loop-i.total h v y in
    loop_goes _ i (length rows) (λ i. finite_row f ys i ∷ []) c.loop-i.total c.in_ok-total.total c.loop-i.invariant c.loop-i-test.true
    (sym (c.in_ok-total.ensures ∙ item))
