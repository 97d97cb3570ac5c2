use Rattle.pami_deferral.proofs.Chains.{pivot_links}
use Rattle.pami_deferral.proofs.ReachScripts.{reached_refusal, reached_fresh}
use Rattle.pami_deferral.proofs.script_laws.reached_rows_are_fresh.Goals as goal

pub returns : goal.returns
returns c = record {
  refusal = reached_refusal;
  fresh = λ f limit m next i row h. reached_fresh f m next i row (pivot_links f limit m next h);
}
