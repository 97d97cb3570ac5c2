use Rattle.pami_trial.proofs.Below.{pushed}
use Rattle.pami_trial.specs.Transport.{source_row}
use Rattle.pami_trial.proofs.rows.source_rows.Goals as goal

pub loop-source-preserved : goal.loop-source-preserved
loop-source-preserved c =
    pushed (source_row c.args.supply) c.loop-source.source _ _ _ c.loop-source.invariant c.in_ok-source_row.ensures c.in_ok-push.ensures.items
