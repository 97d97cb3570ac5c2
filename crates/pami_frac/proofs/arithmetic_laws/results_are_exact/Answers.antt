use Rattle.pami_frac.proofs.Outcomes.{add_value, sub_value, mul_value, div_value}
use Rattle.pami_frac.proofs.arithmetic_laws.results_are_exact.Goals as goal

pub returns : goal.returns
returns c = record {
  sum = add_value;
  difference = sub_value;
  product = mul_value;
  quotient = div_value;
}
