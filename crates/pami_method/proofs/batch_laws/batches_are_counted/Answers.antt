use Rattle.pami_method.proofs.Turns.{next_rows_fewer}
use Rattle.pami_method.proofs.Counts.{batch_counts, batch_within, batch_rows}
use Rattle.pami_method.proofs.batch_laws.batches_are_counted.Goals as goal

pub returns : goal.returns
returns c = record { remaining = next_rows_fewer; rows = batch_rows; count = batch_counts; within = batch_within }
