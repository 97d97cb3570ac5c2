use Rattle.pami_theory.proofs.NextValues.{step_value_at_place, step_value_solved, step_value_leaving}
use Rattle.pami_theory.proofs.update_laws.basic_values_behind_a_step.Goals as goal

pub returns : goal.returns
returns c = record { by_rows = step_value_at_place; by_columns = step_value_solved; leaving = step_value_leaving }
