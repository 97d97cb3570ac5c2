-- What the names of a model that a reader gives are, in both formats.
use Rattle.std.specs.Prelude.{◌≢◌, ℕ, ◌<◌, List, [], All}
use Rattle.pami_model.specs.Contents.{Contents}
use Rattle.pami_model.specs.Rules.{names_of_rows, names_of_columns}

-- not empty, and each byte is above the space
pub record IsModelName (name : List ℕ) : Type 0 where
  pub some : name ≢ []
  pub above : All (λ (byte : ℕ). 32 < byte) name

-- all names of a model
pub record HasModelNames (c : Contents) : Type 0 where
  pub rows : All IsModelName (names_of_rows c.rows)
  pub columns : All IsModelName (names_of_columns c.columns)
