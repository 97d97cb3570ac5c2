use Rattle.std.proofs.Common.{refl}
use Rattle.pami_algebra.proofs.Field.{mul_div_f, div_mul_f, cancel_mul_f}
use Rattle.pami_algebra.proofs.field_laws.quotients_undo_products.Goals as goal

pub returns : goal.returns
returns c = record {
  meaning = λ p q. refl;
  undone = mul_div_f;
  multiplied_again = div_mul_f;
  cancelled = cancel_mul_f;
}
