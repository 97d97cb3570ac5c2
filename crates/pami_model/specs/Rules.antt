-- What the rows and the columns of every model keep.
use Rattle.std.specs.Prelude.{◌≡◌, ◌≢◌, ℕ, ◌<◌, ◌≤◌, List, length, map, sum_by, All, Some, slice_get}
use lib.IntN.{pos}
use Rattle.pami_algebra.specs.Fraction.{Fraction}
use Rattle.pami_algebra.specs.Operations.{◌≤ᶠ◌, of_int}
use Rattle.pami_frac.specs.declared.list.Bounds.{Bounds}
use Rattle.pami_frac.specs.declared.list.Entry.{Entry}
use Rattle.pami_model.specs.declared.list.Row.{Row}
use Rattle.pami_model.specs.declared.list.Column.{Column}

-- the limits of a model
abbrev pub row_limit : ℕ
row_limit = 256

abbrev pub column_limit : ℕ
column_limit = 4096

abbrev pub entry_limit : ℕ
entry_limit = 65536

abbrev pub name_limit : ℕ
name_limit = 255

-- the most bytes that the file of a model may have
abbrev pub byte_limit : ℕ
byte_limit = 16777216

-- each member once: two places have one member only where they are one place
abbrev pub IsDistinct : List (List ℕ) → Type 0
IsDistinct names = (i j : ℕ) (n : List ℕ) → slice_get names i ≡ Some n → slice_get names j ≡ Some n → i ≡ j

-- the lower bound isn't greater than the upper one
abbrev pub IsUncrossed : Bounds → Type 0
IsUncrossed b = (low high : Fraction) → b.low ≡ Some low → b.high ≡ Some high → low ≤ᶠ high

abbrev pub names_of_rows : List Row → List (List ℕ)
names_of_rows rows = map (λ (r : Row). r.name) rows

abbrev pub names_of_columns : List Column → List (List ℕ)
names_of_columns columns = map (λ (c : Column). c.name) columns

-- the count of stored entries
abbrev pub stored_count : List Column → ℕ
stored_count columns = sum_by (λ (c : Column). length c.entries) columns

-- each entry is at a greater row than the entries before it
abbrev pub IsRising : List Entry → Type 0
IsRising entries = (i j : ℕ) (e f : Entry) → slice_get entries i ≡ Some e → slice_get entries j ≡ Some f → i < j → e.place < f.place

-- the entries of a column of a model with this many rows
pub record AreEntries (rows : ℕ) (entries : List Entry) : Type 0 where
  pub rising : IsRising entries
  pub within : All (λ (e : Entry). e.place < rows) entries
  pub stored : All (λ (e : Entry). e.value ≢ of_int (pos 0)) entries

pub record AreRows (rows : List Row) : Type 0 where
  pub distinct : IsDistinct (names_of_rows rows)
  pub uncrossed : All (λ (r : Row). IsUncrossed r.bounds) rows
  pub short_names : All (λ (r : Row). length r.name ≤ name_limit) rows
  pub limited : length rows ≤ row_limit

pub record AreColumns (rows : ℕ) (columns : List Column) : Type 0 where
  pub distinct : IsDistinct (names_of_columns columns)
  pub uncrossed : All (λ (c : Column). IsUncrossed c.bounds) columns
  pub entries : All (λ (c : Column). AreEntries rows c.entries) columns
  pub short_names : All (λ (c : Column). length c.name ≤ name_limit) columns
  pub limited : length columns ≤ column_limit
  pub stored : stored_count columns ≤ entry_limit
