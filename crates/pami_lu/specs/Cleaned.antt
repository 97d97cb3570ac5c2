-- What stands in the rows beside the active part: nothing.
use Rattle.std.specs.Prelude.{◌≡◌, ℕ, ◌<◌, Bool, true, false, List, [], length}
use lib.IntN.{pos}
use Rattle.pami_algebra.specs.Fraction.{Fraction}
use Rattle.pami_algebra.specs.Operations.{of_int}
use Rattle.pami_frac.specs.Signs.{is_zero}
use Rattle.pami_factoring.specs.Factor.{flag, row_at, entry}

-- a row that isn't active is empty, and at a place that isn't active each row has 0
pub record IsCleaned (ts cs : List Bool) (rows : List (List Fraction)) : Type 0 where
  pub empty : (h : ℕ) → flag ts h ≡ false → row_at rows h ≡ []
  pub zero : (h g : ℕ) → flag cs g ≡ false → entry rows h g ≡ of_int (pos 0)

-- the pivot (i, p) was just taken out of the flags
pub record IsStepOf (ts cs : List Bool) (rows : List (List Fraction)) (i p : ℕ) : Type 0 where
  pub down : length ts ≡ length rows
  pub across : length cs ≡ length rows
  pub row_out : flag ts i ≡ false
  pub place_out : flag cs p ≡ false
  pub kept : length (row_at rows i) ≡ length rows
  pub nonzero : is_zero (entry rows i p) ≡ false
  pub same : (h : ℕ) → h < length rows → flag ts h ≡ true → length (row_at rows h) ≡ length rows
  pub empty : (h : ℕ) → ¬ (h ≡ i) → flag ts h ≡ false → row_at rows h ≡ []
  pub zero : (h g : ℕ) → ¬ (g ≡ p) → flag cs g ≡ false → entry rows h g ≡ of_int (pos 0)
