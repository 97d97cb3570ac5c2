use Rattle.std.proofs.Common.{sym, ap, ◌∙◌, length, Err}
use Rattle.std.proofs.lemmas.List.{get_or_default}
use Rattle.std.proofs.lemmas.Result.{err_from_is_err_and}
use lib.IntN.{pos}
use Rattle.pami_algebra.specs.Operations.{of_int}
use Rattle.pami_linear.specs.Lists.{get}
use Rattle.pami_script.specs.Script.{sub_product, sub_entries}
use Rattle.pami_script.proofs.Loops.{entry_goes, entry_stops, place_below}
use Rattle.pami_factor.proofs.sums.subtract_entries.Goals as goal

pub bounds-xs-entry : goal.bounds-xs-entry
bounds-xs-entry c = place_below c.args.entries.now 0 (length c.args.xs.now) c.loop-entry.entry-index c.entry-item.result c.requires c.loop-entry-test.true c.entry-item.is

pub returns-in_err-rest : goal.returns-in_err-rest
returns-in_err-rest c =
    let es = c.args.entries.now in
    let e = c.entry-item.result in
    let l = place_below es 0 (length c.args.xs.now) c.loop-entry.entry-index e c.requires c.loop-entry-test.true c.entry-item.is in
    let x = c.index-xs-entry.is ∙ get_or_default c.args.xs.now e.place c.index-xs-entry.result (of_int (pos 0)) l in
    let p = err_from_is_err_and c.from_residual.result c.from_residual.ensures.1 in
    p.1 ∙ ap Err p.2
    ∙ entry_stops (sub_entries es (get c.args.xs.now) c.args.t) es c.loop-entry.entry-index e (λ e t. sub_product t e.value (get c.args.xs.now e.place)) c.loop-entry.rest c.in_err-rest.field-0.0
    c.loop-entry.invariant c.loop-entry-test.true c.entry-item.is (ap (sub_product c.loop-entry.rest e.value) (sym x) ∙ sym c.in_err-rest.ensures)

pub loop-entry-preserved : goal.loop-entry-preserved
loop-entry-preserved c =
    let es = c.args.entries.now in
    let e = c.entry-item.result in
    let l = place_below es 0 (length c.args.xs.now) c.loop-entry.entry-index e c.requires c.loop-entry-test.true c.entry-item.is in
    let x = c.index-xs-entry.is ∙ get_or_default c.args.xs.now e.place c.index-xs-entry.result (of_int (pos 0)) l in
    entry_goes (sub_entries es (get c.args.xs.now) c.args.t) es c.loop-entry.entry-index e (λ e t. sub_product t e.value (get c.args.xs.now e.place)) c.loop-entry.rest c.in_ok-rest.rest
    c.loop-entry.invariant c.loop-entry-test.true c.entry-item.is (ap (sub_product c.loop-entry.rest e.value) (sym x) ∙ sym c.in_ok-rest.ensures)
