-- What a solve reads of the stored steps.
use Rattle.std.specs.Prelude.{◌≡◌, ℕ, Bool, true, false, List, [], length, set, Result, Ok, slice_index_or}
use lib.IntN.{pos}
use Rattle.pami_algebra.specs.Fraction.{Fraction}
use Rattle.pami_algebra.specs.Operations.{of_int}
use Rattle.pami_linear.specs.Lists.{get}
use Rattle.pami_frac.specs.declared.arithmetic.Refused.{Refused}
use Rattle.pami_script.specs.Script.{then}
use Rattle.pami_factoring.specs.declared.kept.Kept.{Kept}
use Rattle.pami_factoring.specs.Factor.{flag}
use Rattle.pami_factoring.specs.Solve.{sub_all, factors, by_row}
use Rattle.pami_lu.specs.declared.step.SparseStep.{SparseStep}
use Rattle.pami_lu.specs.Stored.{with_passed}

-- the values x at the places of later steps and 0 elsewhere, for a step of which the whole row is the stored one at its own
-- place and at those
pub record IsRead (places : List Bool) (earlier : List SparseStep) (s : SparseStep) (x : List Fraction) : Type 0 where
  pub as_many : length places ≡ length x
  pub own : get (with_passed earlier s.row s.kept) s.place ≡ get s.kept s.place
  pub later : (g : ℕ) → flag places g ≡ true → get (with_passed earlier s.row s.kept) g ≡ get s.kept g
  pub elsewhere : (g : ℕ) → flag places g ≡ false → get x g ≡ of_int (pos 0)

-- what is left of the member at a place, 0 past the end
abbrev pub rest_at : List (Result Fraction Refused) → ℕ → Result Fraction Refused
rest_at rests g = slice_index_or rests g (Ok (of_int (pos 0)))

-- a multiplier of each row that isn't active is 0, for m rows
pub record IsLeftOut (ts : List Bool) (m : ℕ) (multipliers : List Fraction) : Type 0 where
  pub as_many : length ts ≡ m
  pub none : (h : ℕ) → flag ts h ≡ false → get multipliers h ≡ of_int (pos 0)

-- the members with that of a step's row, less the active ones times their multipliers
abbrev pub row_value : List Bool → SparseStep → List Fraction → Result (List Fraction) Refused
row_value ts s v = then (sub_all ts s.multipliers v (get v s.row)) (λ t. Ok (set v s.row t))

-- the factors of all steps for a right side, each in its step's row
abbrev pub row_factors : List Kept → List Fraction → Result (List Fraction) Refused
row_factors ks c = then (factors ks ks [] c) (λ ws. Ok (by_row (length c) ks ws))
