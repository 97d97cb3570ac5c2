-- The entries of each row of a matrix that is given by its columns.
use Rattle.std.specs.Prelude.{◌≡◌, ℕ, ◌<◌, List, [], length, slice_index_or}
use Rattle.pami_algebra.specs.Fraction.{Fraction}
use Rattle.pami_frac.specs.declared.list.Entry.{Entry}
use Rattle.pami_linear.specs.Lists.{get}
use Rattle.pami_script.specs.Dense.{at, Rising}
use Rattle.pami_vec.specs.Entries.{NoZeros}
use Rattle.pami_vec.specs.Reads.{with_entry}

-- the entries of row h
abbrev pub entries_at : List (List Entry) → ℕ → List Entry
entries_at lists h = slice_index_or lists h []

-- each nonzero member of the column at this place is put at the end of its row
pub record AddsColumn (place : ℕ) (column : List Fraction) (old new : List (List Entry)) : Type 0 where
  pub as_many : length new ≡ length old
  pub each : (h : ℕ) → h < length old → entries_at new h ≡ with_entry (entries_at old h) place (get column h)

-- m rows hold the columns at the first n places
pub record AreGathered (columns : List (List Fraction)) (m n : ℕ) (lists : List (List Entry)) : Type 0 where
  pub as_many : length lists ≡ m
  pub rising : (h : ℕ) → h < m → Rising 0 n (entries_at lists h)
  pub nonzero : (h : ℕ) → h < m → NoZeros (entries_at lists h)
  pub values : (h g : ℕ) → h < m → g < n → at (entries_at lists h) g ≡ get (slice_index_or columns g []) h
