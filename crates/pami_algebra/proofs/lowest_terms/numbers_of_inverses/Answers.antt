use Rattle.pami_algebra.proofs.Parts.{den_inv_f, num_inv_above_f, num_inv_below_f}
use Rattle.pami_algebra.proofs.lowest_terms.numbers_of_inverses.Goals as goal

pub returns : goal.returns
returns c = record {
  denominator = den_inv_f;
  numerator_above_zero = num_inv_above_f;
  numerator_below_zero = num_inv_below_f;
}
