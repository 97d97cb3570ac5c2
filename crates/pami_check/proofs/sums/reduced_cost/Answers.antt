use Rattle.std.proofs.Common.{◌∙◌, sym, ap, length, Err}
use Rattle.std.proofs.lemmas.Result.{err_from_is_err_and}
use Rattle.pami_frac.specs.declared.list.Entry.{Entry}
use Rattle.pami_linear.specs.Lists.{get}
use Rattle.pami_script.specs.Script.{sub_product, sub_entries_right}
use Rattle.pami_script.proofs.Loops.{entry_goes, entry_stops, entry_ends, get_is, place_below}
use Rattle.pami_script.proofs.Skipped.{sub_dot_sparse_right}
use Rattle.pami_check.proofs.sums.reduced_cost.Goals as goal

pub bounds-factors-entry : goal.bounds-factors-entry
bounds-factors-entry c =
    place_below c.args.entries.now 0 (length c.args.factors.now) c.loop-entry.entry-index c.entry-item.result c.requires c.loop-entry-test.true c.entry-item.is

pub returns-in_err-total : goal.returns-in_err-total
returns-in_err-total c =
    let p = err_from_is_err_and c.from_residual.result c.from_residual.ensures.1 in
    let es = c.args.entries.now in
    let u = get c.args.factors.now in
    let k = c.loop-entry.entry-index in
    let e = c.entry-item.result in
    let total = c.loop-entry.total in
    let below = place_below es 0 (length c.args.factors.now) k e c.requires c.loop-entry-test.true c.entry-item.is in
    let x = get_is c.args.factors.now e.place c.index-factors-entry.result below c.index-factors-entry.is in
    let same = ap (λ z. sub_product total z e.value) x in
    p.1 ∙ ap Err p.2
    ∙ entry_stops (sub_entries_right u es c.args.cost) es k e (λ (e : Entry) t. sub_product t (u e.place) e.value) total c.in_err-total.field-0.0
    c.loop-entry.invariant c.loop-entry-test.true c.entry-item.is (sym (c.in_err-total.ensures ∙ same))
    ∙ sym (sub_dot_sparse_right (length c.args.factors.now) u es c.args.cost c.requires)

pub loop-entry-preserved : goal.loop-entry-preserved
loop-entry-preserved c =
    let es = c.args.entries.now in
    let u = get c.args.factors.now in
    let k = c.loop-entry.entry-index in
    let e = c.entry-item.result in
    let total = c.loop-entry.total in
    let below = place_below es 0 (length c.args.factors.now) k e c.requires c.loop-entry-test.true c.entry-item.is in
    let x = get_is c.args.factors.now e.place c.index-factors-entry.result below c.index-factors-entry.is in
    let same = ap (λ z. sub_product total z e.value) x in
    entry_goes (sub_entries_right u es c.args.cost) es k e (λ (e : Entry) t. sub_product t (u e.place) e.value) total c.in_ok-total.total
    c.loop-entry.invariant c.loop-entry-test.true c.entry-item.is (sym (c.in_ok-total.ensures ∙ same))

pub returns : goal.returns
returns c =
    let es = c.args.entries.now in
    let u = get c.args.factors.now in
    entry_ends (sub_entries_right u es c.args.cost) es c.loop-entry.entry-index (λ (e : Entry) t. sub_product t (u e.place) e.value) c.loop-entry.total
    c.loop-entry.invariant c.loop-entry-test.false
    ∙ sym (sub_dot_sparse_right (length c.args.factors.now) u es c.args.cost c.requires)
