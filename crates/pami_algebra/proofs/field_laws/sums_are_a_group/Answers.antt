use Rattle.pami_algebra.proofs.Field.{neg_unique_f}
use Rattle.pami_algebra.proofs.Laws.{add_comm_f, add_assoc_f, add_nil_f, add_neg_f}
use Rattle.pami_algebra.proofs.field_laws.sums_are_a_group.Goals as goal

pub returns : goal.returns
returns c = record {
  commutative = add_comm_f;
  associative = add_assoc_f;
  zero_is_neutral = add_nil_f;
  negation_cancels = add_neg_f;
  negation_is_unique = neg_unique_f;
}
