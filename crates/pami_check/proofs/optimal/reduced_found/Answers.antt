use Rattle.std.proofs.Common.{◌∙◌, ◌<◌, ◌∷◌, [], sym, ap, length, subst, Err}
use Rattle.std.proofs.lemmas.Result.{err_from_is_err_and}
use Rattle.pami_linear.specs.Lists.{get}
use Rattle.pami_model.specs.Contents.{contents}
use Rattle.pami_model_form.specs.ModelForm.{model_form}
use Rattle.pami_script.proofs.Loops.{get_is}
use Rattle.std.proofs.Common.{List, Ok, Some, ◌++◌}
use Rattle.pami_frac.specs.declared.list.Entry.{Entry}
use Rattle.pami_script.specs.Dense.{at, Rising}
use Rattle.pami_script.specs.Script.{then, sub_dot}
use Rattle.pami_theory.specs.Start.{is_same}
use Rattle.pami_check.specs.declared.verdict.Condition.TheVariants as conditions
use Rattle.pami_check.specs.Tests.{tested, plain}
use Rattle.pami_check.specs.Verdict.{reduced_test}
use Rattle.pami_check.proofs.Read.{at_place, column_rises}
use Rattle.pami_check.proofs.Parts.{reduced_item}
use Rattle.pami_check.proofs.Tested.{loop_goes, loop_stops}
use Rattle.pami_check.proofs.optimal.reduced_found.Goals as goal

pub reduced_outcome-outcome-requires : goal.reduced_outcome-outcome-requires
reduced_outcome-outcome-requires c =
    let model = c.args.model.now in
    let columns = c.as_slice-columns.result.now in
    let j = c.loop-j.j in
    let column = c.index-columns-j.result in
    let h = at_place columns model.columns j column c.as_slice-columns.ensures c.loop-j-test.true c.index-columns-j.is in
    let ys = length c.args.y.now in
    subst (λ (es : List Entry). Rising 0 ys es) (sym c.as_slice.ensures)
    (column_rises (length model.rows) ys j model.columns column model.columns_kept h c.requires.rows)

pub returns-in_err-judged : goal.returns-in_err-judged
returns-in_err-judged c =
    let p = err_from_is_err_and c.from_residual.result c.from_residual.ensures.1 in
    let m = contents c.args.model.now in
    let f = model_form m in
    let j = c.loop-j.j in
    let columns = c.as_slice-columns.result.now in
    let column = c.index-columns-j.result in
    let h = at_place columns m.columns j column c.as_slice-columns.ensures c.loop-j-test.true c.index-columns-j.is in
    let n = ap length c.as_slice-columns.ensures in
    let ys = c.args.y.now in
    let told = c.index-d-j.result in
    let d = get_is c.args.d.now j c.index-d-j.result (subst (λ k. j < k) (n ∙ sym c.requires.columns) c.loop-j-test.true) c.index-d-j.is in
    let outcome = c.reduced_outcome-outcome.ensures
    ∙ ap (λ es. (then) (sub_dot (length ys) (get ys) (at es) c.minimised-cost.result) (λ t. Ok (is_same t told))) c.as_slice.ensures
    ∙ ap (λ k. (then) (sub_dot (length ys) (get ys) (at column.entries) k) (λ t. Ok (is_same t told))) c.minimised-cost.ensures in
    let item = ap (λ o. tested (plain conditions.Reduced (Some j) o ∷ []) tt) outcome
    ∙ reduced_item m j column c.args.d.now ys told h c.requires.columns c.requires.rows d in
    p.1 ∙ ap Err p.2
    ∙ loop_stops _ j (length columns) (λ j. reduced_test f (get (c.args.d.now ++ ys)) j ∷ []) tt c.in_err-judged.field-0.0 c.loop-j.invariant c.loop-j-test.true
    (sym (c.in_err-judged.ensures ∙ item))

pub loop-j-preserved : goal.loop-j-preserved
loop-j-preserved c =
    let m = contents c.args.model.now in
    let f = model_form m in
    let j = c.loop-j.j in
    let columns = c.as_slice-columns.result.now in
    let column = c.index-columns-j.result in
    let h = at_place columns m.columns j column c.as_slice-columns.ensures c.loop-j-test.true c.index-columns-j.is in
    let n = ap length c.as_slice-columns.ensures in
    let ys = c.args.y.now in
    let told = c.index-d-j.result in
    let d = get_is c.args.d.now j c.index-d-j.result (subst (λ k. j < k) (n ∙ sym c.requires.columns) c.loop-j-test.true) c.index-d-j.is in
    let outcome = c.reduced_outcome-outcome.ensures
    ∙ ap (λ es. (then) (sub_dot (length ys) (get ys) (at es) c.minimised-cost.result) (λ t. Ok (is_same t told))) c.as_slice.ensures
    ∙ ap (λ k. (then) (sub_dot (length ys) (get ys) (at column.entries) k) (λ t. Ok (is_same t told))) c.minimised-cost.ensures in
    let item = ap (λ o. tested (plain conditions.Reduced (Some j) o ∷ []) tt) outcome
    ∙ reduced_item m j column c.args.d.now ys told h c.requires.columns c.requires.rows d in
    loop_goes _ j (length columns) (λ j. reduced_test f (get (c.args.d.now ++ ys)) j ∷ []) tt tt c.loop-j.invariant c.loop-j-test.true
    (sym (c.in_ok-judged.ensures ∙ item))
