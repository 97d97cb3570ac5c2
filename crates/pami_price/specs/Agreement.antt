-- Lists of columns and of stands that are those of a form and a basis, and the entries of a row as a list.
use Rattle.std.specs.Prelude.{◌≡◌, ℕ, ◌<◌, List, [], ◌∷◌, length, slice_index_or}
use Rattle.std.specs.List.{filter, range_with_len}
use Rattle.pami_algebra.specs.Fraction.{Fraction}
use Rattle.pami_frac.specs.declared.list.Entry.{Entry}
use Rattle.pami_linear.specs.Lists.{get}
use Rattle.pami_theory.specs.Form.{Form, variables, coefficient}
use Rattle.pami_theory.specs.Basis as theory
use Rattle.pami_method.specs.Scripts as method
use Rattle.pami_theory.specs.declared.words.Stand.{Stand}
use Rattle.pami_theory.specs.declared.words.Stand.TheVariants.{Basic}
use Rattle.pami_price.specs.Slices.{column_at, with_first}

-- the columns of all variables, by row, and where they stand
pub record AreListed (f : Form) (b : theory.Basis) (columns : List (List Fraction)) (stands : List Stand) : Type 0 where
  pub count : length columns ≡ variables f
  pub column : (v : ℕ) → v < variables f → (i : ℕ) → i < f.rows → get (column_at columns v) i ≡ coefficient f v i
  pub stand : (v : ℕ) → v < variables f → theory.stand_at b v ≡ slice_index_or stands v Basic

-- these variables with these values, but for values 0
abbrev pub entries_at : List ℕ → List Fraction → List Entry
entries_at (v ∷ vs) (alpha ∷ alphas) = with_first v alpha (entries_at vs alphas)
entries_at _ _ = []

-- these variables with the values of a row, but for values 0; `row` goes by variable
abbrev pub nonzero_entries : (ℕ → Fraction) → List ℕ → List Entry
nonzero_entries row [] = []
nonzero_entries row (v ∷ vs) = with_first v (row v) (nonzero_entries row vs)

-- all nonbasic variables, ascending
abbrev pub all_nonbasic : Form → theory.Basis → List ℕ
all_nonbasic f b = filter (λ v. method.is_nonbasic (theory.stand_at b v)) (range_with_len 0 (variables f))
