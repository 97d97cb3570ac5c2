use Rattle.std.proofs.Common.{sym}
use Rattle.pami_algebra.proofs.Field.{neg_neg_f, neg_add_f, neg_mul_f, inv_nil_f, inv_inv_f, inv_neg_f, inv_of_mul_f}
use Rattle.pami_algebra.proofs.field_laws.negations_and_inverses_pass_through.Goals as goal

pub returns : goal.returns
returns c = record {
  negation_twice = neg_neg_f;
  negation_of_a_sum = neg_add_f;
  negation_of_a_product = λ p q. sym (neg_mul_f p q);
  inverse_of_zero = inv_nil_f;
  inverse_twice = inv_inv_f;
  inverse_of_a_negation = inv_neg_f;
  inverse_of_a_product = inv_of_mul_f;
}
