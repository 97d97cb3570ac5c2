-- The columns of a form are even.
use Rattle.std.proofs.Common.{◌≡◌, ℕ, ◌<◌, List, [], ◌∷◌, length, refl, sym, ◌∙◌}
use Rattle.pami_algebra.specs.Fraction.{Fraction}
use Rattle.pami_state.specs.Columns.{rows_of, column_of}
use Rattle.pami_vec.specs.Turned.{AreEven}

rows_are : (columns : List (List Fraction)) → rows_of columns ≡ length (column_of columns 0)
rows_are [] = refl
rows_are (column ∷ columns) = refl

pub even_columns : (columns : List (List Fraction)) → ((v : ℕ) → v < length columns → length (column_of columns v) ≡ rows_of columns) → AreEven columns
even_columns columns tall = λ v l. tall v l ∙ rows_are columns
