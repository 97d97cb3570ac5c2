use Rattle.pami_frac.proofs.Outcomes.{sub_to_add, add_to_sub}
use Rattle.pami_frac.proofs.Fitting.{sub_add_fit, sub_le_fit}
use Rattle.pami_frac.proofs.arithmetic_laws.differences_that_fit.Goals as goal

pub returns : goal.returns
returns c = record {
  by_sums = λ p q s. (sub_to_add p q s, add_to_sub p q s);
  undone = sub_add_fit;
  at_most = sub_le_fit;
}
