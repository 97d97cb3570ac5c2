use Rattle.pami_method.proofs.Batches.{batch_ends_fresh}
use Rattle.pami_deferral.proofs.Chains.{solved_chain}
use Rattle.pami_deferral.proofs.CollectedValues.{collected_are, flips_solve}
use Rattle.pami_deferral.proofs.Minors.{entering_in, leaving_in}
use Rattle.pami_deferral.proofs.collected_laws.collected_values_are_fresh.Goals as goal

pub returns : goal.returns
returns c = record {
  values = λ f limit first ms last h.
      collected_are f first ms last h.fresh (batch_ends_fresh f limit first ms last h.basis h.fresh h.batch).1 (solved_chain f limit first ms last h);
  entering = λ f limit first es m ms last h. entering_in f limit first es m ms last h.basis h.fresh h.batch;
  leaving = λ f limit first es m ms last h. leaving_in f limit first es m ms last h.basis h.fresh h.batch;
  flips = flips_solve;
}
