use Rattle.pami_deferral.proofs.Chains.{pivot_links}
use Rattle.pami_deferral.proofs.KeptWork.{work_is, reach_script_is}
use Rattle.pami_deferral.proofs.work_laws.deferred_work_is_the_major_s.Goals as goal

pub returns : goal.returns
returns c = record {
  list = λ f limit h anew first ms last x p. work_is f limit h anew first ms last x.basis x.fresh p x.batch;
  reach = λ f limit m next row h. reach_script_is f m next row (pivot_links f limit m next h);
}
