use Rattle.pami_linear.proofs.Pivoted.{solves_after_pivot}
use Rattle.pami_linear.proofs.Regular.{solves_to_quotient}
use Rattle.pami_linear.proofs.pivot_laws.solutions_after_a_pivot.Goals as goal

pub returns : goal.returns
returns c = record {
  step = solves_after_pivot;
  quotient = solves_to_quotient;
}
