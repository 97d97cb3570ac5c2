use Rattle.std.proofs.Common.{map}
use Rattle.pami_trial.specs.Transport.{below, source_row}
use Rattle.pami_trial.proofs.Below.{pushed_behind}
use Rattle.pami_trial.proofs.rows.rows_of.Goals as goal

pub loop-sink-preserved : goal.loop-sink-preserved
loop-sink-preserved c =
    pushed_behind (map (source_row c.args.supply) (below c.args.sources)) _ c.loop-sink.sink _ _ _ c.loop-sink.invariant c.in_ok-sink_row.ensures c.in_ok-push.ensures.items
