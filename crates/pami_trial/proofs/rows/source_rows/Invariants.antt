use Rattle.std.proofs.Common.{◌≡◌, map}
use Rattle.pami_trial.specs.Transport.{below, source_row}
use Rattle.pami_trial.proofs.rows.source_rows.Given as goal

abbrev pub invariant-loop-source : goal.invariant-loop-source
invariant-loop-source l = l.rows.items ≡ map (source_row l.supply) (below l.source)
