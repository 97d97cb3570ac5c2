use Rattle.pami_method.proofs.Batches.{batch_ends_fresh}
use Rattle.pami_deferral.proofs.Chains.{solved_chain}
use Rattle.pami_deferral.proofs.CollectScripts.{total_from_zeros, transforms_are, transformed_in, values_value}
use Rattle.pami_deferral.proofs.script_laws.collected_scripts_are_exact.Goals as goal

pub returns : goal.returns
returns c = record {
  flips = total_from_zeros;
  through = transforms_are;
  column = λ f limit first es m ms last y h. transformed_in f limit first es m ms last y h.basis h.fresh h.batch;
  values = λ f limit first ms last xs h.
      values_value f first ms last xs h.fresh (batch_ends_fresh f limit first ms last h.basis h.fresh h.batch).1 (solved_chain f limit first ms last h);
}
