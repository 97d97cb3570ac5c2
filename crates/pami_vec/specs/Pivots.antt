-- Pivots of a program as those of a factor.
use Rattle.std.specs.Prelude.{◌≡◌, ℕ, ◌<◌, List, length, map, false, All}
use Rattle.pami_linear.specs.Lists.{get}
use Rattle.pami_frac.specs.Signs.{is_zero}
use Rattle.pami_factoring.specs.Solve.{ColumnPivot}
use Rattle.pami_vec.specs.declared.step.Pivot.{Pivot}

abbrev pub column_pivot : Pivot → ColumnPivot
column_pivot p = record { place = p.place; column = p.column }

abbrev pub column_pivots : List Pivot → List ColumnPivot
column_pivots pivots = map column_pivot pivots

-- a pivot of a basis with so many places: the member of its column at its place isn't 0
abbrev pub IsPivot : ℕ → Pivot → Type 0
IsPivot n p = (p.place < n) × (length p.column ≡ n) × (is_zero (get p.column p.place) ≡ false)

abbrev pub ArePivots : ℕ → List Pivot → Type 0
ArePivots n pivots = All (IsPivot n) pivots
