use Rattle.pami_algebra.proofs.Field.{inv_unique_f, mul_nil_f}
use Rattle.pami_algebra.proofs.Laws.{mul_comm_f, mul_assoc_f, mul_one_f, mul_inv_f}
use Rattle.pami_algebra.proofs.field_laws.products_are_a_group.Goals as goal

pub returns : goal.returns
returns c = record {
  commutative = mul_comm_f;
  associative = mul_assoc_f;
  one_is_neutral = mul_one_f;
  inverse_cancels = mul_inv_f;
  inverse_is_unique = inv_unique_f;
  zero_absorbs = mul_nil_f;
}
