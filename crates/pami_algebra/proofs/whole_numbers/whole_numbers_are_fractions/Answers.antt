use Rattle.pami_algebra.proofs.Whole.{of_int_add, of_int_mul, of_int_neg, of_int_injective, of_int_le, of_int_lt}
use Rattle.pami_algebra.proofs.whole_numbers.whole_numbers_are_fractions.Goals as goal

pub returns : goal.returns
returns c = record {
  sum = of_int_add;
  product = of_int_mul;
  negation = of_int_neg;
  injective = of_int_injective;
  at_most = of_int_le;
  below = of_int_lt;
}
