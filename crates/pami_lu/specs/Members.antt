-- The rows that have a nonzero at a place, as a rising list.
use Rattle.std.specs.Prelude.{◌≡◌, ℕ, zero, suc, ◌<◌, ◌≤◌, Bool, false, cond, not, ltb, List, [], ◌∷◌, length, slice_index_or}
use lib.Dec.{eqb}
use Rattle.pami_algebra.specs.Fraction.{Fraction}
use Rattle.pami_algebra.specs.Operations.{is_zero}
use Rattle.pami_linear.specs.Lists.{get}
use Rattle.pami_factoring.specs.Factor.{entry}

-- how many at the front are below h
abbrev pub below : ℕ → List ℕ → ℕ
below h [] = 0
below h (k ∷ ks) = cond (ltb k h) (suc (below h ks)) 0

-- h is the first
abbrev pub is_head : ℕ → List ℕ → Bool
is_head h [] = false
is_head h (k ∷ ks) = eqb k h

-- a rising list with h, and without h
abbrev pub with_row : ℕ → List ℕ → List ℕ
with_row h [] = h ∷ []
with_row h (k ∷ ks) = cond (ltb k h) (k ∷ with_row h ks) (cond (eqb k h) (k ∷ ks) (h ∷ k ∷ ks))

abbrev pub without_row : ℕ → List ℕ → List ℕ
without_row h [] = []
without_row h (k ∷ ks) = cond (ltb k h) (k ∷ without_row h ks) (cond (eqb k h) ks (k ∷ ks))

-- those of n from k on for which b holds, rising
abbrev pub those : ℕ → ℕ → (ℕ → Bool) → List ℕ
those zero k b = []
those (suc n) k b = cond (b k) (k ∷ those n (suc k) b) (those n (suc k) b)

-- the entry isn't 0
abbrev pub stands_at : List (List Fraction) → ℕ → ℕ → Bool
stands_at rows h g = not (is_zero (entry rows h g))

-- the set of each of m places but p has exactly the rows with a nonzero there
abbrev pub AreMembers : ℕ → (ℕ → ℕ → Bool) → List (List ℕ) → Type 0
AreMembers m b members = (g : ℕ) → g < m → slice_index_or members g [] ≡ those m 0 (λ h. b h g)

-- rising numbers from `low` on, below `high`
abbrev pub Ascends : ℕ → ℕ → List ℕ → Type 0
Ascends low high [] = low ≤ high
Ascends low high (k ∷ ks) = (low ≤ k) × (k < high) × Ascends (suc k) high ks

-- the sets of all places but p are those of the rows
abbrev pub AreOthers : ℕ → List (List Fraction) → List (List ℕ) → Type 0
AreOthers p rows members = (g : ℕ) → g < length members → ¬ (g ≡ p) → slice_index_or members g [] ≡ those (length rows) 0 (λ h. stands_at rows h g)

-- the sets of all places are those of the rows
abbrev pub AreAll : List (List Fraction) → List (List ℕ) → Type 0
AreAll rows members = (g : ℕ) → g < length members → slice_index_or members g [] ≡ those (length rows) 0 (λ h. stands_at rows h g)

-- the places of a list where it isn't 0
abbrev pub places_of : List Fraction → List ℕ
places_of xs = those (length xs) 0 (λ h. not (is_zero (get xs h)))
