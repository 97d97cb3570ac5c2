use Rattle.std.proofs.Common.{◌≡◌, ◌++◌, map, get_or}
use Rattle.pami_trial.specs.Transport.{below, source_row, sink_row}
use Rattle.pami_trial.proofs.rows.rows_of.Given as goal

abbrev pub invariant-loop-sink : goal.invariant-loop-sink
invariant-loop-sink l =
    l.rows.items ≡ map (source_row l.supply) (below l.sources) ++ map (λ t. sink_row (get_or l.demands t 0) t) (below l.sink)
