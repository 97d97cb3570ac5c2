use Rattle.std.proofs.Common.{◌∙◌, sym, ap, length, Err}
use Rattle.std.proofs.lemmas.Result.{err_from_is_err_and}
use Rattle.pami_frac.specs.declared.list.Entry.{Entry}
use Rattle.pami_linear.specs.Lists.{get}
use Rattle.pami_script.specs.Script.{add_product, add_entries}
use Rattle.pami_script.proofs.Skipped.{add_dot_sparse}
use Rattle.pami_script.proofs.Loops.{entry_goes, entry_stops, entry_ends, get_is, place_below}
use Rattle.pami_script.proofs.plain.add_sparse.Goals as goal

pub bounds-vs-entry : goal.bounds-vs-entry
bounds-vs-entry c = place_below c.args.us.now 0 (length c.args.vs.now) c.loop-entry.entry-index c.entry-item.result c.requires c.loop-entry-test.true c.entry-item.is

pub returns-in_err-total : goal.returns-in_err-total
returns-in_err-total c =
    let p = err_from_is_err_and c.from_residual.result c.from_residual.ensures.1 in
    let below = place_below c.args.us.now 0 (length c.args.vs.now) c.loop-entry.entry-index c.entry-item.result c.requires c.loop-entry-test.true c.entry-item.is in
    let y = get_is c.args.vs.now c.entry-item.result.place c.index-vs-entry.result below c.index-vs-entry.is in
    p.1 ∙ ap Err p.2
    ∙ entry_stops (add_entries c.args.us.now (get c.args.vs.now) c.args.t) c.args.us.now c.loop-entry.entry-index c.entry-item.result (λ (e : Entry) t. add_product t e.value (get c.args.vs.now e.place)) c.loop-entry.total c.in_err-total.field-0.0 c.loop-entry.invariant c.loop-entry-test.true c.entry-item.is
    (sym (c.in_err-total.ensures ∙ ap (add_product c.loop-entry.total c.entry-item.result.value) y))
    ∙ sym (add_dot_sparse (length c.args.vs.now) c.args.us.now (get c.args.vs.now) c.args.t c.requires)

pub loop-entry-preserved : goal.loop-entry-preserved
loop-entry-preserved c =
    let below = place_below c.args.us.now 0 (length c.args.vs.now) c.loop-entry.entry-index c.entry-item.result c.requires c.loop-entry-test.true c.entry-item.is in
    let y = get_is c.args.vs.now c.entry-item.result.place c.index-vs-entry.result below c.index-vs-entry.is in
    entry_goes (add_entries c.args.us.now (get c.args.vs.now) c.args.t) c.args.us.now c.loop-entry.entry-index c.entry-item.result (λ (e : Entry) t. add_product t e.value (get c.args.vs.now e.place)) c.loop-entry.total c.in_ok-total.total c.loop-entry.invariant c.loop-entry-test.true c.entry-item.is
    (sym (c.in_ok-total.ensures ∙ ap (add_product c.loop-entry.total c.entry-item.result.value) y))

pub returns : goal.returns
returns c =
    entry_ends (add_entries c.args.us.now (get c.args.vs.now) c.args.t) c.args.us.now c.loop-entry.entry-index (λ (e : Entry) t. add_product t e.value (get c.args.vs.now e.place)) c.loop-entry.total c.loop-entry.invariant c.loop-entry-test.false
    ∙ sym (add_dot_sparse (length c.args.vs.now) c.args.us.now (get c.args.vs.now) c.args.t c.requires)
