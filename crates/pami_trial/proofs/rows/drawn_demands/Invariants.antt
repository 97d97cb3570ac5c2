use Rattle.std.proofs.Common.{◌≡◌, map}
use Rattle.pami_trial.specs.Draws.{state_after}
use Rattle.pami_trial.specs.Transport.{below, demand}
use Rattle.pami_trial.proofs.rows.drawn_demands.Given as goal

abbrev pub invariant-loop-sink : goal.invariant-loop-sink
invariant-loop-sink l =
    (l.demands.items ≡ map (demand l.initial.draws.state) (below l._sink)) × (l.draws.state ≡ state_after l.initial.draws.state l._sink)
