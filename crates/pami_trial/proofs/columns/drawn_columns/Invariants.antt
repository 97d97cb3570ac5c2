use Rattle.std.proofs.Common.{◌≡◌, ◌+◌, ◌/◌, ◌%◌, map}
use Rattle.pami_trial.specs.Draws.{draw, state_after}
use Rattle.pami_trial.specs.Transport.{below, way_column}
use Rattle.pami_trial.proofs.columns.drawn_columns.Given as goal

abbrev pub invariant-loop-way : goal.invariant-loop-way
invariant-loop-way l =
    (l.columns.items
    ≡ map (λ w. way_column (1 + draw l.initial.draws.state w 100) l.supply l.sources (w / l.sinks) (w % l.sinks)) (below l.way))
    × (l.draws.state ≡ state_after l.initial.draws.state l.way)
