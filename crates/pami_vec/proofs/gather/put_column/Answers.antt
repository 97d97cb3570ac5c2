use Rattle.std.proofs.Common.{◌≡◌, ◌<◌, length, set, ◌∙◌, arith}
use Rattle.std.proofs.lemmas.List.{length-set}
use Rattle.pami_script.proofs.Loops.{place_below}
use Rattle.pami_vec.proofs.Gathered.{spread, spread_step, spread_adds}
use Rattle.pami_vec.proofs.gather.put_column.Goals as goal

pub index_mut-requires : goal.index_mut-requires
index_mut-requires c =
    let low = place_below c.entries-entry-items.result.now 0 (length c.args.column.now) c.loop-entry.entry-index c.entry-item.result c.entries-entry-items.ensures.rising c.loop-entry-test.true c.entry-item.is in
    let same = c.loop-entry.invariant.1 in
    let tall = c.requires in
    let ok = c.loop-entry.lists.ok in
    omega arith

pub loop-entry-preserved : goal.loop-entry-preserved
loop-entry-preserved c =
    let es = c.entries-entry-items.result.now in
    let low = place_below es 0 (length c.args.column.now) c.loop-entry.entry-index c.entry-item.result c.entries-entry-items.ensures.rising c.loop-entry-test.true c.entry-item.is in
    let same = c.loop-entry.invariant.1 in
    let tall = c.requires in (
      spread_step c.args.place es c.loop-entry.entry-index c.entry-item.result (spread c.args.place es c.args.lists.now.items) c.loop-entry.lists.items c.index_mut.result.now c.push.new.self
          c.loop-entry.invariant.0 c.loop-entry-test.true c.entry-item.is (omega arith) c.index_mut.ensures.value c.in_ok-push.ensures,
      length-set c.loop-entry.lists.items c.entry-item.result.place c.push.new.self ∙ same,
    )

pub returns : goal.returns
returns c =
    spread_adds c.args.place c.args.column.now c.entries-entry-items.result.now c.loop-entry.entry-index c.args.lists.now.items c.loop-entry.lists.items c.entries-entry-items.ensures c.requires c.loop-entry-test.false
    c.loop-entry.invariant.0
