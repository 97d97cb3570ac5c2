-- The names of a model's variables, as a text has them.
use Rattle.std.specs.Prelude.{ℕ, ◌-◌, List, [], ◌++◌, length, if◌then◌else◌, nat_lt, codes, slice_index_or}

-- the names of the columns and of the rows
pub record Names : Type 0 where
  pub columns : List (List ℕ)
  pub rows : List (List ℕ)

-- a variable: a column or a row, and its name; a dash for one that isn't there
abbrev pub variable_word : Names → ℕ → List ℕ
variable_word n v =
    if nat_lt v (length n.columns) then codes "x:" ++ slice_index_or n.columns v [] else
    if nat_lt (v - length n.columns) (length n.rows) then codes "r:" ++ slice_index_or n.rows (v - length n.columns) [] else codes "-"
