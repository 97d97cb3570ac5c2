use Rattle.pami_collect.proofs.Weights.{read_pivot, pivot_entry}
use Rattle.pami_collect.proofs.state.reweigh_all.Goals as goal

pub reweigh-requires-clause-pivot : goal.reweigh-requires-clause-pivot
reweigh-requires-clause-pivot c =
    pivot_entry _ c.pivot-item.result c.entries.result.now
    (read_pivot _ c.args.pivots.now c.loop-pivot.pivot-index c.pivot-item.result c.requires c.loop-pivot-test.true c.pivot-item.is) c.entries.ensures
