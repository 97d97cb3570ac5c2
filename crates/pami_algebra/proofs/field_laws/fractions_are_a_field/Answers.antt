use Rattle.pami_algebra.proofs.Field.{add_mul_f, one_not_zero, zero_factor_f}
use Rattle.pami_algebra.proofs.Laws.{mul_add_f}
use Rattle.pami_algebra.proofs.field_laws.fractions_are_a_field.Goals as goal

pub returns : goal.returns
returns c = record {
  distributive = mul_add_f;
  distributive_from_the_right = add_mul_f;
  zero_is_not_one = one_not_zero;
  no_zero_divisors = zero_factor_f;
}
