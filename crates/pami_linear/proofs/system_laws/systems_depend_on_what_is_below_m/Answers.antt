use Rattle.pami_linear.proofs.Systems.{solves_same, combines_same, inverse_same, regular_same}
use Rattle.pami_linear.proofs.system_laws.systems_depend_on_what_is_below_m.Goals as goal

pub returns : goal.returns
returns c = record {
  solves = solves_same;
  combines = combines_same;
  inverse = inverse_same;
  regular = regular_same;
}
