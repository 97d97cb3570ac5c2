-- What the stored steps of an elimination stand for.
use Rattle.std.specs.Prelude.{◌≡◌, ℕ, ◌<◌, Bool, true, false, cond, List, [], ◌∷◌, set, length, replicate, take, slice_index_or}
use lib.Dec.{eqb}
use lib.IntN.{pos}
use Rattle.pami_algebra.specs.Fraction.{Fraction}
use Rattle.pami_algebra.specs.Operations.{of_int, ◌*ᶠ◌}
use Rattle.pami_linear.specs.Elimination.{EliminationStep}
use Rattle.pami_linear.specs.Lists.{get}
use Rattle.pami_frac.specs.Signs.{is_zero}
use Rattle.pami_factoring.specs.declared.kept.Kept.{Kept}
use Rattle.pami_factoring.specs.Factor.{flag}
use Rattle.pami_lu.specs.declared.step.SparseStep.{SparseStep}

-- ---- as the steps of the dense script

-- row i with the numbers that it had at the places of earlier steps, the last one first: what a step took from it times the pivot
abbrev pub with_passed : List SparseStep → ℕ → List Fraction → List Fraction
with_passed [] i row = row
with_passed (s ∷ earlier) i row = set (with_passed earlier i row) s.place (get s.multipliers i *ᶠ get s.kept s.place)

-- a step of the dense script, which keeps the whole row
abbrev pub full_step : List SparseStep → SparseStep → Kept
full_step earlier s = record { row = s.row; place = s.place; kept = with_passed earlier s.row s.kept; multipliers = s.multipliers }

-- the steps after `earlier`
abbrev pub full_steps : List SparseStep → List SparseStep → List Kept
full_steps earlier [] = []
full_steps earlier (s ∷ ss) = full_step earlier s ∷ full_steps (s ∷ earlier) ss

-- is this place that of one of these steps?
abbrev pub is_passed : List Kept → ℕ → Bool
is_passed [] g = false
is_passed (k ∷ ks) g = cond (eqb k.place g) true (is_passed ks g)

-- the number at a place of the row that a step of the dense script keeps, 0 where an earlier step pivoted; d past the end
abbrev pub kept_at : List Kept → ℕ → Kept → ℕ → Fraction
kept_at ks step d g = cond (is_passed (take step ks) g) (of_int (pos 0)) (get (slice_index_or ks step d).kept g)

-- how often the pivot's row was taken from a row by a step of the unbounded elimination, 0 for those that aren't active after it
abbrev pub multiplier_below : EliminationStep → ℕ → Fraction
multiplier_below e h = cond (e.rows h) (e.multiplier h) (of_int (pos 0))

-- ---- what is known of them

-- a step with m rows, where ts and cs say which rows and places are active before it
pub record IsStored (m : ℕ) (ts cs : List Bool) (s : SparseStep) : Type 0 where
  pub row_low : s.row < m
  pub place_low : s.place < m
  pub row_in : flag ts s.row ≡ true
  pub place_in : flag cs s.place ≡ true
  pub kept_length : length s.kept ≡ m
  pub multipliers_length : length s.multipliers ≡ m
  pub nonzero : is_zero (get s.kept s.place) ≡ false
  pub kept_beside : (g : ℕ) → flag cs g ≡ false → get s.kept g ≡ of_int (pos 0)
  pub multipliers_beside : (h : ℕ) → flag (set ts s.row false) h ≡ false → get s.multipliers h ≡ of_int (pos 0)

-- all steps, each with the flags before it; behind the last one no row is active
abbrev pub AreStored : ℕ → List Bool → List Bool → List SparseStep → Type 0
AreStored m ts cs [] = (h : ℕ) → flag ts h ≡ false
AreStored m ts cs (s ∷ ss) = IsStored m ts cs s × AreStored m (set ts s.row false) (set cs s.place false) ss

-- from the start, for as many rows as steps
abbrev pub AreWhole : List SparseStep → Type 0
AreWhole ss = AreStored (length ss) (replicate (length ss) true) (replicate (length ss) true) ss
