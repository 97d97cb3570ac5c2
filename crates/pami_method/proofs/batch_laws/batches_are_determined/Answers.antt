use Rattle.pami_method.proofs.Batches.{batch_only, batch_ends_fresh}
use Rattle.pami_method.proofs.batch_laws.batches_are_determined.Goals as goal

pub returns : goal.returns
returns c = record { only = batch_only; ends = batch_ends_fresh }
