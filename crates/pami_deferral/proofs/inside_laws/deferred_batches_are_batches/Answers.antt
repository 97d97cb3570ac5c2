use Rattle.pami_deferral.proofs.Insides.{batch_deferred, deferred_is, deferred_only}
use Rattle.pami_deferral.proofs.inside_laws.deferred_batches_are_batches.Goals as goal

pub returns : goal.returns
returns c = record {
  deferred = λ f limit first ms last h p. batch_deferred f limit first ms last h.basis h.fresh p h.batch;
  batch = deferred_is;
  only = deferred_only;
}
