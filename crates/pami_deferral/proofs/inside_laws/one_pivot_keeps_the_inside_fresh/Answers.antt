use Rattle.pami_deferral.proofs.Chains.{pivot_links}
use Rattle.pami_deferral.proofs.Pivots.{theta_is, rho_there, value_there, weight_there, cost_there, inside_is}
use Rattle.pami_deferral.proofs.inside_laws.one_pivot_keeps_the_inside_fresh.Goals as goal

pub returns : goal.returns
returns c = record {
  length = λ f limit m next h. theta_is f m next (pivot_links f limit m next h);
  row = λ f limit m next row h. rho_there f m next row (pivot_links f limit m next h);
  value = λ f limit m next row h. value_there f m next row (pivot_links f limit m next h);
  weight = λ f limit m next row h. weight_there f m next row (pivot_links f limit m next h);
  cost = λ f limit m next u h. cost_there f m next u (pivot_links f limit m next h);
  all = λ f limit m next h. inside_is f m next (pivot_links f limit m next h);
}
