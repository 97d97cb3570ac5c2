use Rattle.std.proofs.Common.{refl}
use Rattle.pami_algebra.proofs.Field.{add_sub_f, sub_add_f, sub_zero_f}
use Rattle.pami_algebra.proofs.field_laws.differences_undo_sums.Goals as goal

pub returns : goal.returns
returns c = record {
  meaning = λ p q. refl;
  undone = add_sub_f;
  added_again = sub_add_f;
  zero_between_equals = sub_zero_f;
}
