use Rattle.pami_linear.proofs.Regular.{units_regular, negated_units_regular, units_inverse, negated_units_inverse, solves_units, solves_negated_units, combines_units, combines_negated_units}
use Rattle.pami_linear.proofs.system_laws.unit_columns_are_regular.Goals as goal

pub returns : goal.returns
returns c = record {
  regular = units_regular;
  regular_negated = negated_units_regular;
  inverse = units_inverse;
  inverse_negated = negated_units_inverse;
  solves = solves_units;
  solves_negated = solves_negated_units;
  combines = combines_units;
  combines_negated = combines_negated_units;
}
