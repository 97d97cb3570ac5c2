-- What a builder keeps, and how its tables are the lists of a draft.
use Rattle.std.specs.Prelude.{◌≡◌, ◌≢◌, ℕ, ◌≤◌, ◌<◌, suc, not, nat_lt, Option, List, [], ◌∷◌, length, map, All, true}
use Rattle.std.specs.Global.{Vec}
use Rattle.std.specs.List.{list_any}
use Rattle.std.specs.Option.{option_map}
use lib.IntN.{pos}
use Rattle.pami_algebra.specs.Operations.{of_int}
use Rattle.pami_frac.specs.declared.list.Bounds.{Bounds}
use Rattle.pami_frac.specs.declared.list.Entry.{Entry}
use Rattle.pami_model.specs.declared.builder.Building.{Building}
use Rattle.pami_model.specs.declared.builder.Side.{Side}
use Rattle.pami_model.specs.declared.builder.Side.TheVariants as sides
use Rattle.pami_model.specs.declared.fault.What.TheVariants as what
use Rattle.pami_model.specs.declared.fault.BuildFault.{BuildFault}
use Rattle.pami_model.specs.declared.fault.BuildFault.TheVariants as faults
use Rattle.pami_model.specs.declared.list.Row.{Row}
use Rattle.pami_model.specs.declared.list.Column.{Column}
use Rattle.pami_model.specs.Rules.{stored_count, row_limit, column_limit, entry_limit, name_limit}
use Rattle.pami_model.specs.Judgement.{first_of, wrong_if}
use Rattle.pami_model.specs.Draft.{Draft, is_pair, place_of, new_row}

-- a table by the bytes of its names
abbrev pub named : {V : Type 0} → List (Vec ℕ × V) → List (List ℕ × V)
named table = map (λ e. (e.0.items, e.1)) table

-- a table of names and bounds, in its order, as rows
abbrev pub rows_of : List (Vec ℕ × Bounds) → List Row
rows_of table = map (λ p. new_row p.0 p.1) (named table)

-- a column by its name and what else is known of it
abbrev pub built_column : List ℕ × Building → Column
built_column p = record { name = p.0; cost = p.1.cost; bounds = p.1.bounds; entries = p.1.entries.items }

-- a table of names and columns without name, in its order, as columns
abbrev pub columns_of : List (Vec ℕ × Building) → List Column
columns_of table = map built_column (named table)

-- the names of a table, in its order
abbrev pub names_of : {V : Type 0} → List (Vec ℕ × V) → List (List ℕ)
names_of table = map (λ e. e.0.items) table

-- how many names a table may have
abbrev pub limit_on : Side → ℕ
limit_on sides.Row = row_limit
limit_on sides.Column = column_limit

-- the refusal of a name that stands already
abbrev pub duplicate_on : Side → ℕ → BuildFault
duplicate_on sides.Row earlier = faults.DuplicateRow earlier
duplicate_on sides.Column earlier = faults.DuplicateColumn earlier

-- the refusal of one name more than the limit
abbrev pub too_many_on : Side → BuildFault
too_many_on sides.Row = faults.TooMany what.Rows row_limit
too_many_on sides.Column = faults.TooMany what.Columns column_limit

-- what a table with these names refuses
abbrev pub name_fault : Side → List (List ℕ) → List ℕ → Option BuildFault
name_fault side names name =
    first_of (wrong_if (nat_lt name_limit (length name)) faults.NameTooLong)
    (first_of (option_map (λ earlier. duplicate_on side earlier) (place_of name names))
    (wrong_if (not (nat_lt (length names) (limit_on side))) (too_many_on side)))

-- `P` of each member and its place, from `k` on
abbrev pub AllPlaces : {A : Type 0} → (ℕ → A → Type 0) → ℕ → List A → Type 0
AllPlaces P k [] = Unit {0}
AllPlaces P k (x ∷ xs) = P k x × AllPlaces P (suc k) xs

-- no two entries at one row
abbrev pub IsApart : List Entry → Type 0
IsApart [] = Unit {0}
IsApart (e ∷ es) = All (λ (f : Entry). e.place ≢ f.place) es × IsApart es

-- what the entries of a column keep: each was taken, at a row of the model, and isn't 0
pub record AreTaken (rows : ℕ) (pairs : List (ℕ × ℕ)) (column : ℕ) (c : Column) : Type 0 where
  pub apart : IsApart c.entries
  pub within : All (λ (e : Entry). e.place < rows) c.entries
  pub stored : All (λ (e : Entry). e.value ≢ of_int (pos 0)) c.entries
  pub taken : All (λ (e : Entry). list_any (is_pair column e.place) pairs ≡ true) c.entries

-- what a draft and its count of stored entries keep
pub record IsKept (d : Draft) (stored : ℕ) : Type 0 where
  pub rows_short : All (λ (r : Row). length r.name ≤ name_limit) d.rows
  pub rows_limited : length d.rows ≤ row_limit
  pub columns_short : All (λ (c : Column). length c.name ≤ name_limit) d.columns
  pub columns_limited : length d.columns ≤ column_limit
  pub entries : AllPlaces (AreTaken (length d.rows) d.pairs) 0 d.columns
  pub counted : stored ≡ stored_count d.columns
  pub limited : stored ≤ entry_limit
