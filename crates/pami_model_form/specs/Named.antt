-- A model as its texts name it: its names and counts, and its objective in the file's own sense.
use Rattle.std.specs.Prelude.{length}
use Rattle.pami_model.specs.Contents.{Contents}
use Rattle.pami_model.specs.Rules.{names_of_columns, names_of_rows, stored_count}
use Rattle.pami_lines.specs.Head.{Counts}
use Rattle.pami_lines.specs.Names.{Names}
use Rattle.pami_lines.specs.Certificate.{Named}
use Rattle.pami_model_form.specs.ModelForm.{file_cost}

abbrev pub names_of : Contents → Names
names_of c = record { columns = names_of_columns c.columns; rows = names_of_rows c.rows }

abbrev pub counts_of : Contents → Counts
counts_of c = record { rows = length c.rows; columns = length c.columns; entries = stored_count c.columns }

abbrev pub named_of : Contents → Named
named_of c = record {
  names = names_of c;
  counts = counts_of c;
  constant = c.constant;
  cost = file_cost c;
}
