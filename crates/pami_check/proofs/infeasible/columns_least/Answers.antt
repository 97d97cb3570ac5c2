use Rattle.std.proofs.Common.{◌∙◌, ◌∷◌, [], sym, ap, length, subst, Err}
use Rattle.std.proofs.lemmas.Result.{err_from_is_err_and}
use Rattle.pami_linear.specs.Lists.{get}
use Rattle.pami_model.specs.Contents.{contents}
use Rattle.pami_model_form.specs.ModelForm.{model_form}
use Rattle.std.proofs.Common.{List}
use Rattle.pami_frac.specs.declared.list.Entry.{Entry}
use Rattle.pami_script.specs.Dense.{at, Rising}
use Rattle.pami_script.specs.Script.{then, add_dot}
use Rattle.pami_theory.specs.Form.{zero_f}
use Rattle.pami_check.specs.Verdict.{column_least, finite_column}
use Rattle.pami_check.specs.Lists.{finite}
use Rattle.pami_check.proofs.Read.{at_place, column_rises}
use Rattle.pami_check.proofs.Parts.{finite_column_item}
use Rattle.pami_check.proofs.Tested.{loop_goes, loop_stops}
use Rattle.pami_check.proofs.infeasible.columns_least.Goals as goal

pub column_outcome-outcome-requires : goal.column_outcome-outcome-requires
column_outcome-outcome-requires c =
    let model = c.args.model.now in
    let columns = c.as_slice-columns.result.now in
    let j = c.loop-j.j in
    let column = c.index-columns-j.result in
    let h = at_place columns model.columns j column c.as_slice-columns.ensures c.loop-j-test.true c.index-columns-j.is in
    let ys = length c.args.y.now in
    subst (λ (es : List Entry). Rising 0 ys es) (sym c.as_slice.ensures)
    (column_rises (length model.rows) ys j model.columns column model.columns_kept h c.requires)

pub returns-in_err-total : goal.returns-in_err-total
returns-in_err-total c =
    let p = err_from_is_err_and c.from_residual.result c.from_residual.ensures.1 in
    let m = contents c.args.model.now in
    let f = model_form m in
    let j = c.loop-j.j in
    let columns = c.as_slice-columns.result.now in
    let column = c.index-columns-j.result in
    let h = at_place columns m.columns j column c.as_slice-columns.ensures c.loop-j-test.true c.index-columns-j.is in
    let ys = c.args.y.now in
    let total = c.loop-j.total in
    let outcome = c.column_outcome-outcome.ensures
    ∙ ap (λ es. (then) (add_dot (length ys) (get ys) (at es) zero_f) (λ g. column_least column.bounds g total)) c.as_slice.ensures in
    let item = ap (finite j) outcome ∙ finite_column_item m j column ys total h c.requires in
    p.1 ∙ ap Err p.2
    ∙ loop_stops _ j (length columns) (λ j. finite_column f (get ys) j ∷ []) total c.in_err-total.field-0.0 c.loop-j.invariant c.loop-j-test.true
    (sym (c.in_err-total.ensures ∙ item))

pub loop-j-preserved : goal.loop-j-preserved
loop-j-preserved c =
    let m = contents c.args.model.now in
    let f = model_form m in
    let j = c.loop-j.j in
    let columns = c.as_slice-columns.result.now in
    let column = c.index-columns-j.result in
    let h = at_place columns m.columns j column c.as_slice-columns.ensures c.loop-j-test.true c.index-columns-j.is in
    let ys = c.args.y.now in
    let total = c.loop-j.total in
    let outcome = c.column_outcome-outcome.ensures
    ∙ ap (λ es. (then) (add_dot (length ys) (get ys) (at es) zero_f) (λ g. column_least column.bounds g total)) c.as_slice.ensures in
    let item = ap (finite j) outcome ∙ finite_column_item m j column ys total h c.requires in
    loop_goes _ j (length columns) (λ j. finite_column f (get ys) j ∷ []) total c.in_ok-total.total c.loop-j.invariant c.loop-j-test.true
    (sym (c.in_ok-total.ensures ∙ item))
