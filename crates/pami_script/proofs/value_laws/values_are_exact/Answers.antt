use Rattle.pami_script.proofs.Values.{outcome_value, run_value}
use Rattle.pami_script.proofs.value_laws.values_are_exact.Goals as goal

pub returns : goal.returns
returns c = record {
  operation = outcome_value;
  expression = run_value;
}
