use Rattle.std.proofs.Common.{◌≡◌, ◌∙◌, ◌<◌, sym, ap, length, subst, Ok, Err}
use Rattle.std.proofs.lemmas.Result.{err_from_is_err_and}
use Rattle.pami_algebra.specs.Fraction.{Fraction}
use Rattle.pami_linear.specs.Lists.{get}
use Rattle.pami_script.specs.Dense.{at}
use Rattle.pami_check.specs.Lists.{entry_by}
use Rattle.pami_script.specs.Script.{add_product}
use Rattle.pami_script.proofs.Loops.{each_goes, each_stops, get_is}
use Rattle.pami_theory.specs.Form.{zero_f}
use Rattle.pami_model.specs.declared.list.Column.{Column}
use Rattle.pami_model_form.proofs.Members.{member_read}
use Rattle.pami_check.proofs.Sought.{nothing_added}
use Rattle.pami_check.proofs.sums.row_sum.Goals as goal
use Rattle.pami_check.proofs.sums.row_sum.Goals.{in-Some+in_ok-total, in_default}

pub returns-in_err-total : goal.returns-in_err-total
returns-in_err-total c =
    let p = err_from_is_err_and c.from_residual.result c.from_residual.ensures.1 in
    let columns = c.args.columns.now in
    let values = c.args.values.now in
    let j = c.loop-j.j in
    let total = c.loop-j.total in
    let value = c.index-values-j.result in
    let column = c.index-columns-j.result in
    let k = member_read (λ (d : Column). at d.entries c.args.row) zero_f columns j column c.loop-j-test.true c.index-columns-j.is in
    let entry = ap (λ es. at es c.args.row) c.as_slice.ensures ∙ k in
    let x = get_is values j value (subst (λ n. j < n) (sym c.requires.values) c.loop-j-test.true) c.index-values-j.is in
    let same = ap (λ z. add_product total z value) (c.in-Some.ensures.found ∙ entry) ∙ ap (add_product total (entry_by columns c.args.row j)) x in
    p.1 ∙ ap Err p.2
    ∙ each_stops _ (length columns) j (λ j (t : Fraction). add_product t (entry_by columns c.args.row j) (get values j)) total c.in_err-total.field-0.0
    c.loop-j.invariant c.loop-j-test.true (sym (c.in_err-total.ensures ∙ same))

pub loop-j-preserved : goal.loop-j-preserved
loop-j-preserved c =
    let columns = c.args.columns.now in
    let values = c.args.values.now in
    let j = c.loop-j.j in
    let total = c.loop-j.total in
    let value = c.index-values-j.result in
    let column = c.index-columns-j.result in
    let k = member_read (λ (d : Column). at d.entries c.args.row) zero_f columns j column c.loop-j-test.true c.index-columns-j.is in
    let entry = ap (λ es. at es c.args.row) c.as_slice.ensures ∙ k in
    let x = get_is values j value (subst (λ n. j < n) (sym c.requires.values) c.loop-j-test.true) c.index-values-j.is in
    let at_row = entry_by columns c.args.row j in
    let same = ap (λ z. add_product total z value) entry ∙ ap (add_product total at_row) x in
    let next = c.match-entry_that_counts.total in
    let goes : add_product total at_row (get values j) ≡ Ok next = elim c.match-entry_that_counts.branch [
      | in-Some+in_ok-total w ↦
          let found = ap (λ z. add_product total z value) w.in-Some.ensures.found in
          sym same ∙ sym found ∙ sym w.in_ok-total.ensures ∙ ap Ok (sym w.total-is)
      | in_default w ↦ sym same ∙ nothing_added total (at c.as_slice.result.now c.args.row) value w.in_default.ensures.none ∙ ap Ok (sym w.total-is)
    ] in
    each_goes _ (length columns) j (λ j (t : Fraction). add_product t (entry_by columns c.args.row j) (get values j)) total next
    c.loop-j.invariant c.loop-j-test.true goes
