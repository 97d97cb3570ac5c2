use Rattle.std.proofs.Common.{refl}
use Rattle.std.proofs.lemmas.List.{length-map}
use Rattle.pami_model.specs.declared.list.Row.{Row}
use Rattle.pami_model.specs.declared.list.Column.{Column}
use Rattle.pami_model_form.proofs.form_laws.texts_name_all_variables.Goals as goal

pub returns : goal.returns
returns c = record {
  rows = λ m. refl;
  columns = λ m. refl;
  named_rows = λ m. length-map m.rows (λ (row : Row). row.name);
  named_columns = λ m. length-map m.columns (λ (column : Column). column.name);
}
