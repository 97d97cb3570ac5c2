use Rattle.std.proofs.Common.{refl}
use Rattle.pami_model_form.proofs.Members.{bounds_of_column, bounds_of_row, cost_of_column, own_cost, entry_of_column}
use Rattle.pami_model_form.proofs.form_laws.forms_say_their_models.Goals as goal

pub returns : goal.returns
returns c = record {
  rows = λ m. refl;
  columns = λ m. refl;
  column_bounds = bounds_of_column;
  row_bounds = bounds_of_row;
  coefficients = entry_of_column;
  costs = cost_of_column;
  own_costs = own_cost;
  smallest = λ own. refl;
  greatest = λ own. refl;
}
