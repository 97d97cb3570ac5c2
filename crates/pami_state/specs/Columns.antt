-- The computational form that a program's lists make. Each list goes over all variables: the columns first, and then the
-- row variable of each row, whose column is the negated unit vector of its row and whose cost is 0.
use Rattle.std.specs.Prelude.{◌≡◌, ℕ, ◌+◌, ◌-◌, ◌<◌, ◌≤◌, ◌^◌, List, [], ◌∷◌, length, take, slice_index_or}
use Rattle.pami_algebra.specs.Fraction.{Fraction}
use Rattle.pami_algebra.specs.Operations.{neg_f}
use Rattle.pami_linear.specs.Lists.{get}
use Rattle.pami_linear.specs.Sums.{unit}
use Rattle.pami_frac.specs.declared.list.Bounds.{Bounds}
use Rattle.pami_theory.specs.Form.{Form, limits, variables, zero_f, IsUncrossed}

-- the count of rows: the length of each column
abbrev pub rows_of : List (List Fraction) → ℕ
rows_of [] = 0
rows_of (column ∷ columns) = length column

-- the count of columns, without the row variables
abbrev pub columns_of : List (List Fraction) → ℕ
columns_of columns = length columns - rows_of columns

-- the column of a variable, by row
abbrev pub column_of : List (List Fraction) → ℕ → List Fraction
column_of columns v = slice_index_or columns v []

-- the form: the last variables of the lists are its row variables
abbrev pub form_by : List (List Fraction) → List Bounds → List Fraction → Form
form_by columns bounds costs = record {
  rows = rows_of columns;
  columns = columns_of columns;
  entries = take (columns_of columns) columns;
  bounds = bounds;
  costs = take (columns_of columns) costs;
}

-- the lists are those of a form
pub record IsForm (columns : List (List Fraction)) (bounds : List Bounds) (costs : List Fraction) : Type 0 where
  pub few : length columns < 2 ^ 32
  pub as_many_bounds : length bounds ≡ length columns
  pub as_many_costs : length costs ≡ length columns
  pub row_variables : rows_of columns ≤ length columns
  pub tall : (v : ℕ) → v < length columns → length (column_of columns v) ≡ rows_of columns
  pub row_column : (k i : ℕ) → k < rows_of columns → i < rows_of columns → get (column_of columns (columns_of columns + k)) i ≡ neg_f (unit k i)
  pub row_cost : (k : ℕ) → k < rows_of columns → get costs (columns_of columns + k) ≡ zero_f
  pub uncrossed : (v : ℕ) → v < length columns → IsUncrossed (limits (form_by columns bounds costs) v)

-- a form with these bounds and this count of rows, which has no entries and no costs: what a basis is speaks of neither
abbrev pub bounds_form : ℕ → List Bounds → Form
bounds_form rows bounds = record { rows = rows; columns = length bounds - rows; entries = []; bounds = bounds; costs = [] }

-- a form has these bounds, and no others
pub record HasBounds (f : Form) (bounds : List Bounds) : Type 0 where
  pub by_variable : length bounds ≡ variables f
  pub same : f.bounds ≡ bounds
