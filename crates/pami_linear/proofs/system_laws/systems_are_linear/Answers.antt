use Rattle.pami_linear.proofs.Systems.{solves_add, combines_add, solves_zero, solves_unit, combines_unit}
use Rattle.pami_linear.proofs.system_laws.systems_are_linear.Goals as goal

pub returns : goal.returns
returns c = record {
  solves = solves_add;
  combines = combines_add;
  nothing = solves_zero;
  column = solves_unit;
  row = combines_unit;
}
