use Rattle.pami_algebra.proofs.Strict.{lt_iff_not_le, le_iff_not_lt, lt_iff_le_other, lt_irrefl_f, lt_asymm_f, lt_trichotomy_f}
use Rattle.pami_algebra.proofs.order_laws.strict_order_is_the_rest.Goals as goal

pub returns : goal.returns
returns c = record {
  not_reversed = lt_iff_not_le;
  not_below = le_iff_not_lt;
  other = lt_iff_le_other;
  irreflexive = lt_irrefl_f;
  asymmetric = lt_asymm_f;
  one_of_three = lt_trichotomy_f;
}
