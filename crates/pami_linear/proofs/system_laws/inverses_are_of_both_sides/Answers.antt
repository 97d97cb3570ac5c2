use Rattle.pami_linear.proofs.Systems.{row_is, solves_by}
use Rattle.pami_linear.proofs.Regular.{left_inverse, right_inverse_from_left, one_inverse, inverse_row, combines_by}
use Rattle.pami_linear.proofs.system_laws.inverses_are_of_both_sides.Goals as goal

pub returns : goal.returns
returns c = record {
  left = left_inverse;
  right = right_inverse_from_left;
  one = one_inverse;
  row = inverse_row;
  one_row = row_is;
  solves = solves_by;
  combines = combines_by;
}
