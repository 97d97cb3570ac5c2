use Rattle.std.proofs.Common.{◌+◌, ap}
use Rattle.pami_trial.proofs.Below.{pushed}
use Rattle.pami_trial.proofs.Sequences.{stepped, drawn_next}
use Rattle.pami_trial.proofs.rows.drawn_demands.Goals as goal

pub loop-sink-preserved : goal.loop-sink-preserved
loop-sink-preserved c = (
  pushed _ c.loop-sink._sink _ _ _ c.loop-sink.invariant.0
      (ap (λ k. 1 + k) (drawn_next _ c.loop-sink._sink _ _ c.loop-sink.invariant.1 c.below.ensures.state 50 _ c.below.ensures.drawn)) c.in_ok-push.ensures.items,
  stepped _ c.loop-sink._sink _ _ c.loop-sink.invariant.1 c.below.ensures.state,
)
