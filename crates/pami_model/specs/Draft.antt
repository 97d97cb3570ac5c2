-- What a builder has been given so far, what it refuses next, and the model that it finishes.
use Rattle.std.specs.Prelude.{◌≡◌, ℕ, ◌+◌, ◌&&◌, Bool, true, false, not, if◌then◌else◌, List, [], ◌∷◌, ◌++◌, length, map, fold, position, Option, Some, None, nat_eq, nat_lt, slice_index_or}
use Rattle.std.specs.List.{list_any}
use Rattle.std.specs.Option.{option_map, option_or}
use Rattle.std.specs.Str.{bytes_eq}
use lib.IntN.{pos}
use Rattle.pami_algebra.specs.Fraction.{Fraction}
use Rattle.pami_algebra.specs.Operations.{of_int, is_below}
pub use Rattle.pami_frac.specs.Signs.{is_zero}
use Rattle.pami_frac.specs.declared.list.Bounds.{Bounds}
use Rattle.pami_frac.specs.declared.list.Entry.{Entry}
use Rattle.pami_model.specs.declared.fault.Crossed.{Crossed}
use Rattle.pami_model.specs.declared.fault.Crossed.TheVariants as crosseds
use Rattle.pami_model.specs.declared.fault.What.TheVariants as what
use Rattle.pami_model.specs.declared.fault.BuildFault.{BuildFault}
use Rattle.pami_model.specs.declared.fault.BuildFault.TheVariants as faults
use Rattle.pami_model.specs.declared.list.Row.{Row}
use Rattle.pami_model.specs.declared.list.Column.{Column}
use Rattle.pami_model.specs.declared.model.Sense.{Sense}
use Rattle.pami_model.specs.Judgement.{first_of, wrong_if}
use Rattle.pami_model.specs.Rules.{names_of_rows, names_of_columns, stored_count, row_limit, column_limit, entry_limit, name_limit}

-- rows and columns in the order of their adding, each column's stored entries too; and every pair of a column and a
-- row that `add_entry` has taken, also where its value is 0
pub record Draft : Type 0 where
  pub sense : Sense
  pub constant : Fraction
  pub rows : List Row
  pub columns : List Column
  pub pairs : List (ℕ × ℕ)

-- the number 0
abbrev pub zero : Fraction
zero = of_int (pos 0)

-- at least 0
abbrev pub nonnegative : Bounds
nonnegative = record { low = Some zero; high = None }

-- the place of a name
abbrev pub place_of : List ℕ → List (List ℕ) → Option ℕ
place_of name names = position (bytes_eq name) names

-- a name that is too long, then one that stands already, then a count at its limit
abbrev pub row_fault : Draft → List ℕ → Option BuildFault
row_fault d name =
    first_of (wrong_if (nat_lt name_limit (length name)) faults.NameTooLong)
    (first_of (option_map (λ earlier. faults.DuplicateRow earlier) (place_of name (names_of_rows d.rows)))
    (wrong_if (not (nat_lt (length d.rows) row_limit)) (faults.TooMany what.Rows row_limit)))

-- the same of columns
abbrev pub column_fault : Draft → List ℕ → Option BuildFault
column_fault d name =
    first_of (wrong_if (nat_lt name_limit (length name)) faults.NameTooLong)
    (first_of (option_map (λ earlier. faults.DuplicateColumn earlier) (place_of name (names_of_columns d.columns)))
    (wrong_if (not (nat_lt (length d.columns) column_limit)) (faults.TooMany what.Columns column_limit)))

-- the pair of this column and this row
abbrev pub is_pair : ℕ → ℕ → ℕ × ℕ → Bool
is_pair column row p = nat_eq column p.0 && nat_eq row p.1

-- a pair that was taken before, then one stored entry more than the limit
abbrev pub entry_fault : Draft → ℕ → ℕ → Fraction → Option BuildFault
entry_fault d column row value =
    first_of (wrong_if (list_any (is_pair column row) d.pairs) (faults.DuplicateEntry column row))
    (wrong_if (not (is_zero value) && not (nat_lt (stored_count d.columns) entry_limit)) (faults.TooMany what.Entries entry_limit))

-- what a call adds

-- no rows and no columns: the least value of 0
abbrev pub empty_draft : Draft
empty_draft = record { sense = Rattle.pami_model.specs.declared.model.Sense.TheVariants.Min; constant = zero; rows = []; columns = []; pairs = [] }

-- a row of this name with these bounds
abbrev pub new_row : List ℕ → Bounds → Row
new_row name bounds = record { name = name; bounds = bounds }

-- a column of this name with cost 0, bounds 0 and infinity, and no entries
abbrev pub new_column : List ℕ → Column
new_column name = record { name = name; cost = zero; bounds = nonnegative; entries = [] }

-- the list with `f` of the member at this place
abbrev pub changed : {A : Type 0} → ℕ → (A → A) → List A → List A
changed i f [] = []
changed i f (x ∷ xs) = if nat_eq i 0 then f x ∷ xs else x ∷ changed (Rattle.std.specs.Prelude.◌-◌ i 1) f xs

-- the column with one entry more, where the value isn't 0
abbrev pub stores : ℕ → Fraction → Column → Column
stores row value c = if is_zero value then c else record c { entries = c.entries ++ record { place = row; value = value } ∷ [] }

-- the row, and the column, of this number
abbrev pub row_at : List Row → ℕ → Row
row_at rows i = slice_index_or rows i (new_row [] nonnegative)

abbrev pub column_at : List Column → ℕ → Column
column_at columns i = slice_index_or columns i (new_column [])

-- the row, and the column, with another setting
abbrev pub row_with_bounds : Bounds → Row → Row
row_with_bounds bounds r = record r { bounds = bounds }

abbrev pub column_with_bounds : Bounds → Column → Column
column_with_bounds bounds c = record c { bounds = bounds }

abbrev pub column_with_cost : Fraction → Column → Column
column_with_cost cost c = record c { cost = cost }

-- the model

-- `e` in front of the first entry whose row isn't smaller
abbrev pub placed : Entry → List Entry → List Entry
placed e [] = e ∷ []
placed e (x ∷ xs) = if nat_lt x.place e.place then x ∷ placed e xs else e ∷ x ∷ xs

-- the entries by rising row
abbrev pub by_row : List Entry → List Entry
by_row entries = fold (λ sorted e. placed e sorted) [] entries

-- the column with its entries by rising row
abbrev pub finished : Column → Column
finished c = record c { entries = by_row c.entries }

-- the lower bound is greater than the upper one
abbrev pub crosses : Option Fraction → Option Fraction → Bool
crosses (Some low) (Some high) = is_below high low
crosses (Some low) None = false
crosses None high = false

-- the bounds are crossed
abbrev pub is_crossed : Bounds → Bool
is_crossed b = crosses b.low b.high

-- the first of these rows, and of these columns, whose bounds are crossed
abbrev pub crossed_row : List Row → Option Crossed
crossed_row rows = option_map (λ i. crosseds.Row i) (position (λ (r : Row). is_crossed r.bounds) rows)

abbrev pub crossed_column : List Column → Option Crossed
crossed_column columns = option_map (λ i. crosseds.Column i) (position (λ (c : Column). is_crossed c.bounds) columns)

-- the first crossed row, or else the first crossed column
abbrev pub first_crossed : Draft → Option Crossed
first_crossed d = option_or (crossed_row d.rows) (crossed_column d.columns)
