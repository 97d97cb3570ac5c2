use Rattle.pami_algebra.proofs.Parts.{num_neg_f, den_neg_f, num_of_int, den_of_int}
use Rattle.pami_algebra.proofs.lowest_terms.numbers_of_negations_and_whole_numbers.Goals as goal

pub returns : goal.returns
returns c = record {
  negation_numerator = num_neg_f;
  negation_denominator = den_neg_f;
  whole_numerator = num_of_int;
  whole_denominator = den_of_int;
}
