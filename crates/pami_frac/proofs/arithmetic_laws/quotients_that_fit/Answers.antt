use Rattle.pami_frac.proofs.Outcomes.{div_to_mul, mul_to_div}
use Rattle.pami_frac.proofs.Fitting.{div_mul_fit, mul_div_fit}
use Rattle.pami_frac.proofs.arithmetic_laws.quotients_that_fit.Goals as goal

pub returns : goal.returns
returns c = record {
  by_products = λ p q s. (div_to_mul p q s, mul_to_div p q s);
  undone = div_mul_fit;
  multiplied_again = mul_div_fit;
}
