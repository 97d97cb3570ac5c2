use Rattle.std.proofs.Common.{◌<◌, length, subst, sym, Ok, Err, get_or}
use Rattle.pami_script.proofs.Loops.{entry_goes, entry_stops, place_below}
use Rattle.pami_range.specs.Lists.{bound_step_at, tightest_bound}
use Rattle.pami_range.proofs.Loops.{bound_read}
use Rattle.pami_range.proofs.ends.tightest_bound.Goals as goal

pub bounds-head-p : goal.bounds-head-p
bounds-head-p c = place_below c.args.entries.now 0 (length c.args.head.now) c.loop-entry.entry-index c.entry-item.result c.requires.entries c.loop-entry-test.true c.entry-item.is

pub bounds-values-p : goal.bounds-values-p
bounds-values-p c = subst (λ n. c.entry-item.result.place < n) (sym c.requires.values) (place_below c.args.entries.now 0 (length c.args.head.now) c.loop-entry.entry-index c.entry-item.result c.requires.entries c.loop-entry-test.true c.entry-item.is)

pub returns-in-Err : goal.returns-in-Err
returns-in-Err c =
    let head = c.args.head.now in
    let e = c.entry-item.result in
    let es = c.args.entries.now in
    let l : e.place < length head = place_below es 0 (length head) c.loop-entry.entry-index e c.requires.entries c.loop-entry-test.true c.entry-item.is in
    let k : get_or head e.place 0 < length c.args.bounds.now = c.requires.known e.place 0 l in
    entry_stops (tightest_bound c.args.side c.args.bounds.now head c.args.values.now es) es c.loop-entry.entry-index e
    (bound_step_at c.args.side c.args.bounds.now head c.args.values.now) c.loop-entry.so_far c.in-Err.refused c.loop-entry.invariant c.loop-entry-test.true c.entry-item.is
    (bound_read c.args.side c.args.bounds.now head c.args.values.now e c.loop-entry.so_far (Err c.in-Err.refused) c.index-bounds-v.result c.index-values-p.result
    l k c.requires.values c.index-bounds-v.is c.index-values-p.is c.in-Err.ensures)

pub loop-entry-preserved : goal.loop-entry-preserved
loop-entry-preserved c =
    let head = c.args.head.now in
    let e = c.entry-item.result in
    let es = c.args.entries.now in
    let l : e.place < length head = place_below es 0 (length head) c.loop-entry.entry-index e c.requires.entries c.loop-entry-test.true c.entry-item.is in
    let k : get_or head e.place 0 < length c.args.bounds.now = c.requires.known e.place 0 l in
    entry_goes (tightest_bound c.args.side c.args.bounds.now head c.args.values.now es) es c.loop-entry.entry-index e
    (bound_step_at c.args.side c.args.bounds.now head c.args.values.now) c.loop-entry.so_far c.in-Ok.next c.loop-entry.invariant c.loop-entry-test.true c.entry-item.is
    (bound_read c.args.side c.args.bounds.now head c.args.values.now e c.loop-entry.so_far (Ok c.in-Ok.next) c.index-bounds-v.result c.index-values-p.result
    l k c.requires.values c.index-bounds-v.is c.index-values-p.is c.in-Ok.ensures)
