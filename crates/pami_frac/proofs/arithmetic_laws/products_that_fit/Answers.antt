use Rattle.pami_frac.proofs.Outcomes.{mul_swap}
use Rattle.pami_frac.proofs.Fitting.{mul_assoc_fit, mul_add_fit, mul_one_fit, mul_le_fit, mul_lt_fit}
use Rattle.pami_frac.proofs.arithmetic_laws.products_that_fit.Goals as goal

pub returns : goal.returns
returns c = record {
  commutative = mul_swap;
  associative = mul_assoc_fit;
  distributive = mul_add_fit;
  one_is_neutral = mul_one_fit;
  at_most = mul_le_fit;
  below = mul_lt_fit;
}
