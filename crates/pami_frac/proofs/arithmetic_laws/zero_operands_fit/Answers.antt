use Rattle.pami_frac.proofs.Outcomes.{add_zero_fits, zero_add_fits, mul_zero_fits, zero_mul_fits, zero_sub_fits, sub_zero_fits, zero_div_fits}
use Rattle.pami_frac.proofs.arithmetic_laws.zero_operands_fit.Goals as goal

pub returns : goal.returns
returns c = record {
  sum_left = zero_add_fits;
  sum_right = add_zero_fits;
  difference_left = zero_sub_fits;
  difference_right = sub_zero_fits;
  product_left = zero_mul_fits;
  product_right = mul_zero_fits;
  quotient_left = zero_div_fits;
}
