use Rattle.std.proofs.Common.{◌+◌, ◌/◌, ◌%◌, ap, ◌∙◌}
use Rattle.pami_trial.specs.Transport.{way_column}
use Rattle.pami_trial.proofs.Below.{pushed}
use Rattle.pami_trial.proofs.Sequences.{stepped, drawn_next}
use Rattle.pami_trial.proofs.columns.drawn_columns.Goals as goal

pub loop-way-preserved : goal.loop-way-preserved
loop-way-preserved c =
    let w = c.loop-way.way in (
      pushed _ w _ _ _ c.loop-way.invariant.0
          (c.in_ok-way_column.ensures
          ∙ ap (λ k. way_column (1 + k) c.args.supply c.args.sources (w / c.args.sinks) (w % c.args.sinks))
          (drawn_next _ w _ _ c.loop-way.invariant.1 c.below-cost.ensures.state 100 _ c.below-cost.ensures.drawn)) c.in_ok-push.ensures.items,
      stepped _ w _ _ c.loop-way.invariant.1 c.below-cost.ensures.state,
    )
