use Rattle.std.proofs.Common.{◌∙◌, ◌<◌, sym, ap, length, subst, Err, ◌++◌}
use Rattle.std.proofs.lemmas.Result.{err_from_is_err_and}
use Rattle.pami_linear.specs.Lists.{get}
use Rattle.pami_model.specs.Contents.{contents}
use Rattle.pami_model_form.specs.ModelForm.{model_form}
use Rattle.pami_script.proofs.Loops.{get_is}
use Rattle.std.specs.List.{All}
use Rattle.pami_model.specs.declared.list.Column.{Column}
use Rattle.pami_model.specs.Rules.{IsRising}
use Rattle.pami_check.specs.Verdict.{row_pair}
use Rattle.pami_check.specs.Lists.{reached}
use Rattle.pami_check.proofs.Read.{at_place, columns_rise}
use Rattle.pami_check.proofs.Items.{row_item}
use Rattle.pami_check.proofs.Tested.{loop_goes, loop_stops}
use Rattle.pami_check.proofs.point.rows_found.Goals as goal

pub row_found-requires-clause-rising : goal.row_found-requires-clause-rising
row_found-requires-clause-rising c =
    let model = c.args.model.now in
    subst (All (λ (d : Column). IsRising d.entries)) (sym c.as_slice-columns.ensures) (columns_rise (length model.rows) model.columns model.columns_kept)

pub returns-in_err-row_found : goal.returns-in_err-row_found
returns-in_err-row_found c =
    let p = err_from_is_err_and c.from_residual.result c.from_residual.ensures.1 in
    let m = contents c.args.model.now in
    let f = model_form m in
    let i = c.loop-i.i in
    let rows = c.as_slice-rows.result.now in
    let row = c.index-rows-i.result in
    let h = at_place rows m.rows i row c.as_slice-rows.ensures c.loop-i-test.true c.index-rows-i.is in
    let n = ap length c.as_slice-rows.ensures in
    let columns = c.as_slice-columns.result.now in
    let r = get_is c.args.r.now i c.index-r-i.result (subst (λ k. i < k) (n ∙ sym c.requires.rows) c.loop-i-test.true) c.index-r-i.is in
    let item = row_item m columns c.args.reach i row c.args.x.now c.args.r.now c.index-r-i.result c.as_slice-columns.ensures c.requires.columns h r in
    let all = get (c.args.x.now ++ c.args.r.now) in
    p.1 ∙ ap Err p.2
    ∙ loop_stops _ i (length rows) (row_pair f (reached c.args.reach) all) tt c.in_err-row_found.field-0.0 c.loop-i.invariant c.loop-i-test.true
    (sym (c.in_err-row_found.ensures ∙ item))

pub loop-i-preserved : goal.loop-i-preserved
loop-i-preserved c =
    let m = contents c.args.model.now in
    let f = model_form m in
    let i = c.loop-i.i in
    let rows = c.as_slice-rows.result.now in
    let row = c.index-rows-i.result in
    let h = at_place rows m.rows i row c.as_slice-rows.ensures c.loop-i-test.true c.index-rows-i.is in
    let n = ap length c.as_slice-rows.ensures in
    let columns = c.as_slice-columns.result.now in
    let r = get_is c.args.r.now i c.index-r-i.result (subst (λ k. i < k) (n ∙ sym c.requires.rows) c.loop-i-test.true) c.index-r-i.is in
    let item = row_item m columns c.args.reach i row c.args.x.now c.args.r.now c.index-r-i.result c.as_slice-columns.ensures c.requires.columns h r in
    let all = get (c.args.x.now ++ c.args.r.now) in
    loop_goes _ i (length rows) (row_pair f (reached c.args.reach) all) tt tt c.loop-i.invariant c.loop-i-test.true
    (sym (c.in_ok-row_found.ensures ∙ item))
