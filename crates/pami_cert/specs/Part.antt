-- The parts of a certificate's text: the lines of the columns, and those of the rows.
use Rattle.std.specs.Prelude.{ℕ, List, codes}
use Rattle.pami_model.specs.Contents.{Contents}
use Rattle.pami_model.specs.Rules.{names_of_columns, names_of_rows}
use Rattle.pami_cert.specs.declared.part.Part.{Part}
use Rattle.pami_cert.specs.declared.part.Part.TheVariants.{Columns, Rows}

-- the first word of a part's lines
abbrev pub tag : Part → List ℕ
tag Columns = codes "x"
tag Rows = codes "r"

-- the names of a part's lines, in the model's order
abbrev pub names : Contents → Part → List (List ℕ)
names c Columns = names_of_columns c.columns
names c Rows = names_of_rows c.rows
