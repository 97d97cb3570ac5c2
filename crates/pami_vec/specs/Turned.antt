-- A matrix by its rows, seen as the list of its columns.
use Rattle.std.specs.Prelude.{◌≡◌, ℕ, ◌<◌, List, [], length, slice_index_or}
use Rattle.pami_algebra.specs.Fraction.{Fraction}
use Rattle.pami_frac.specs.declared.list.Entry.{Entry}
use Rattle.pami_linear.specs.Lists.{get}
use Rattle.pami_script.specs.Dense.{at, Rising}
use Rattle.pami_factoring.specs.Factor.{rows_from}

-- the columns of rows of this length; each has the member of each row at its index
abbrev pub turned : ℕ → List (List Fraction) → List (List Fraction)
turned count rows = rows_from count 0 rows

-- each row has this length
abbrev pub AreLong : ℕ → List (List Fraction) → Type 0
AreLong count rows = (i : ℕ) → i < length rows → length (slice_index_or rows i []) ≡ count

-- each column is as long as the first
abbrev pub AreEven : List (List Fraction) → Type 0
AreEven columns = (v : ℕ) → v < length columns → length (slice_index_or columns v []) ≡ length (slice_index_or columns 0 [])

-- the members of one row that the columns have there, by rising column; a row past the end has none
pub record AreRowOf (columns : List (List Fraction)) (row : ℕ) (es : List Entry) : Type 0 where
  pub rising : Rising 0 (length columns) es
  pub value : (v : ℕ) → v < length columns → at es v ≡ get (slice_index_or columns v []) row
