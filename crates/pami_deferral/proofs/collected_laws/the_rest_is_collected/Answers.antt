use Rattle.pami_method.proofs.Counts.{batch_counts}
use Rattle.pami_deferral.proofs.Chains.{solved_chain}
use Rattle.pami_deferral.proofs.CollectedValues.{weights_are, basis_is}
use Rattle.pami_deferral.proofs.collected_laws.the_rest_is_collected.Goals as goal

pub returns : goal.returns
returns c = record {
  weights = λ f limit first ms last h. weights_are f first ms last h.fresh (solved_chain f limit first ms last h);
  basis = λ f limit first ms last h. basis_is f first ms last (solved_chain f limit first ms last h);
  count = batch_counts;
}
