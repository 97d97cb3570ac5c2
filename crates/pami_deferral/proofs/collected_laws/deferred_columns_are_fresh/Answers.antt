use Rattle.pami_deferral.proofs.Chains.{solved_chain}
use Rattle.pami_deferral.proofs.CollectedValues.{deferred_are}
use Rattle.pami_deferral.proofs.Minors.{column_in}
use Rattle.pami_deferral.proofs.collected_laws.deferred_columns_are_fresh.Goals as goal

pub returns : goal.returns
returns c = record {
  column = λ f limit first es m ms last h. column_in f limit first es m ms last h.basis h.fresh h.batch;
  pivots = λ f limit first ms last h. deferred_are f first ms last h.fresh (solved_chain f limit first ms last h);
}
