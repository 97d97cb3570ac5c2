use Rattle.std.proofs.Common.{◌∙◌}
use Rattle.std.proofs.lemmas.List.{get_or_default}
use Rattle.pami_state.proofs.Summed.{adding_row, adding_more, adding_end}
use Rattle.pami_state.proofs.starting.add_column.Goals as goal

pub loop-entry-preserved : goal.loop-entry-preserved
loop-entry-preserved c =
    let es = c.entries-entry-items.result.now in
    let i = c.loop-entry.entry-index in
    let e = c.entry-item.result in
    adding_more c.args.sums.now es i c.args.x c.loop-entry.sums e c.index-sums-row.result c.go_on.result c.loop-entry.invariant c.loop-entry-test.true c.entry-item.is
    (c.index-sums-row.is ∙ get_or_default c.loop-entry.sums e.place c.index-sums-row.result _ (adding_row c.args.sums.now es i c.args.x c.loop-entry.sums e c.loop-entry.invariant c.loop-entry-test.true c.entry-item.is))
    c.go_on.ensures

pub returns : goal.returns
returns c = adding_end c.args.sums.now c.args.column.now c.entries-entry-items.result.now c.loop-entry.entry-index c.args.x c.loop-entry.sums c.requires c.entries-entry-items.ensures c.loop-entry.invariant c.loop-entry-test.false
