-- Vectors that are kept as lists.
use Rattle.std.specs.Prelude.{ℕ, List, slice_index_or}
use lib.IntN.{pos}
use Rattle.pami_algebra.specs.Fraction.{Fraction}
use Rattle.pami_algebra.specs.Operations.{of_int}

-- the member of a list, 0 past its end
abbrev pub get : List Fraction → ℕ → Fraction
get xs i = slice_index_or xs i (of_int (pos 0))
