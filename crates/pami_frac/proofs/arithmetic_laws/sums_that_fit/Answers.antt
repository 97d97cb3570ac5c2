use Rattle.pami_frac.proofs.Outcomes.{add_swap, add_neg_fits}
use Rattle.pami_frac.proofs.Fitting.{add_assoc_fit, add_neg_fit, add_le_fit, add_lt_fit}
use Rattle.pami_frac.proofs.arithmetic_laws.sums_that_fit.Goals as goal

pub returns : goal.returns
returns c = record {
  commutative = add_swap;
  associative = add_assoc_fit;
  negation = add_neg_fits;
  negation_cancels = add_neg_fit;
  at_most = add_le_fit;
  below = add_lt_fit;
}
