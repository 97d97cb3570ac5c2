-- A worked example: two rows and two places, and one pivot since.
use Rattle.std.specs.Prelude.{List, [], ◌∷◌}
use lib.IntN.{ℤ, pos}
use Rattle.pami_algebra.specs.Fraction.{Fraction}
use Rattle.pami_algebra.specs.Operations.{of_int}
use Rattle.pami_factoring.specs.declared.kept.Kept.{Kept}
use Rattle.pami_factoring.specs.Solve.{ColumnPivot}

-- two whole numbers
abbrev pub pair : ℤ → ℤ → List Fraction
pair a b = of_int a ∷ of_int b ∷ []

-- the rows (1, 1) and (1, 2)
abbrev pub two_rows : List (List Fraction)
two_rows = pair (pos 1) (pos 1) ∷ pair (pos 1) (pos 2) ∷ []

-- row 0 at place 0 is taken once from row 1
abbrev pub two_steps : List Kept
two_steps =
    record { row = 0; place = 0; kept = pair (pos 1) (pos 1); multipliers = pair (pos 0) (pos 1) }
    ∷ record { row = 1; place = 1; kept = pair (pos 1) (pos 1); multipliers = pair (pos 0) (pos 0) }
    ∷ []

-- the column at place 0 becomes the sum of both columns
abbrev pub sum_of_columns : List ColumnPivot
sum_of_columns = record { place = 0; column = pair (pos 1) (pos 1) } ∷ []
