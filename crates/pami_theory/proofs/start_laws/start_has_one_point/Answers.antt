use Rattle.pami_theory.proofs.Starts.{start_has_values, start_values_only}
use Rattle.pami_theory.proofs.start_laws.start_has_one_point.Goals as goal

pub returns : goal.returns
returns c = record {
  has_values = start_has_values;
  only_values = start_values_only;
}
