use Rattle.std.proofs.Common.{◌<◌, length, subst, sym, Ok, Err}
use Rattle.pami_script.proofs.Loops.{entry_goes, entry_stops, place_below}
use Rattle.pami_range.specs.Lists.{cost_step_at, tightest_cost}
use Rattle.pami_range.proofs.Loops.{cost_read}
use Rattle.pami_range.proofs.ends.tightest_cost.Goals as goal

pub bounds-bounds-v : goal.bounds-bounds-v
bounds-bounds-v c = place_below c.args.entries.now 0 (length c.args.bounds.now) c.loop-entry.entry-index c.entry-item.result c.requires.entries c.loop-entry-test.true c.entry-item.is

pub bounds-stands-v : goal.bounds-stands-v
bounds-stands-v c = subst (λ n. c.entry-item.result.place < n) (sym c.requires.stands) (place_below c.args.entries.now 0 (length c.args.bounds.now) c.loop-entry.entry-index c.entry-item.result c.requires.entries c.loop-entry-test.true c.entry-item.is)

pub bounds-reduced-v : goal.bounds-reduced-v
bounds-reduced-v c = subst (λ n. c.entry-item.result.place < n) (sym c.requires.reduced) (place_below c.args.entries.now 0 (length c.args.bounds.now) c.loop-entry.entry-index c.entry-item.result c.requires.entries c.loop-entry-test.true c.entry-item.is)

pub returns-in-Err : goal.returns-in-Err
returns-in-Err c =
    let bounds = c.args.bounds.now in
    let e = c.entry-item.result in
    let es = c.args.entries.now in
    let l : e.place < length bounds = place_below es 0 (length bounds) c.loop-entry.entry-index e c.requires.entries c.loop-entry-test.true c.entry-item.is in
    entry_stops (tightest_cost c.args.side bounds c.args.stands.now c.args.reduced.now es) es c.loop-entry.entry-index e
    (cost_step_at c.args.side bounds c.args.stands.now c.args.reduced.now) c.loop-entry.so_far c.in-Err.refused c.loop-entry.invariant c.loop-entry-test.true c.entry-item.is
    (cost_read c.args.side bounds c.args.stands.now c.args.reduced.now e c.loop-entry.so_far (Err c.in-Err.refused) c.index-bounds-v.result c.index-reduced-v.result
    l c.requires.reduced c.index-bounds-v.is c.index-reduced-v.is c.in-Err.ensures)

pub loop-entry-preserved : goal.loop-entry-preserved
loop-entry-preserved c =
    let bounds = c.args.bounds.now in
    let e = c.entry-item.result in
    let es = c.args.entries.now in
    let l : e.place < length bounds = place_below es 0 (length bounds) c.loop-entry.entry-index e c.requires.entries c.loop-entry-test.true c.entry-item.is in
    entry_goes (tightest_cost c.args.side bounds c.args.stands.now c.args.reduced.now es) es c.loop-entry.entry-index e
    (cost_step_at c.args.side bounds c.args.stands.now c.args.reduced.now) c.loop-entry.so_far c.in-Ok.next c.loop-entry.invariant c.loop-entry-test.true c.entry-item.is
    (cost_read c.args.side bounds c.args.stands.now c.args.reduced.now e c.loop-entry.so_far (Ok c.in-Ok.next) c.index-bounds-v.result c.index-reduced-v.result
    l c.requires.reduced c.index-bounds-v.is c.index-reduced-v.is c.in-Ok.ensures)
