use Rattle.pami_frac.proofs.Fitting.{add_refused, sub_refused, mul_refused, div_refused}
use Rattle.pami_frac.proofs.arithmetic_laws.refusals_keep_their_operands.Goals as goal

pub returns : goal.returns
returns c = record {
  sum = add_refused;
  difference = sub_refused;
  product = mul_refused;
  quotient = div_refused;
}
