-- The pivot that an elimination takes next, after the count of Markowitz (1957): of the active entries that aren't 0 the
-- one whose row and column leave the fewest others, then the one at the smaller place, then the one in the smaller row.
use Rattle.std.specs.Prelude.{◌≡◌, ℕ, zero, suc, ◌<◌, ◌≤◌, ◌-◌, ◌*◌, ◌⊎◌, Bool, true, false, cond, not, Option, Some, None}
use lib.Dec.{T, ltb}
use Rattle.pami_algebra.specs.Fraction.{Fraction}
use Rattle.pami_algebra.specs.Operations.{is_zero}
use Rattle.pami_linear.specs.Active.{count}

pub record Pivot : Type 0 where
  pub row : ℕ
  pub place : ℕ

-- (i, p) is in an active row, at an active place, and isn't 0
abbrev pub allowed_in : (ℕ → Bool) → (ℕ → Bool) → (ℕ → ℕ → Fraction) → ℕ → ℕ → Bool
allowed_in r c w i p = cond (r i) (cond (c p) (not (is_zero (w i p))) false) false

-- the active entries of row i that aren't 0
abbrev pub row_count : ℕ → (ℕ → Bool) → (ℕ → ℕ → Fraction) → ℕ → ℕ
row_count m c w i = count m (λ g. cond (c g) (not (is_zero (w i g))) false)

-- the active entries at place p that aren't 0
abbrev pub place_count : ℕ → (ℕ → Bool) → (ℕ → ℕ → Fraction) → ℕ → ℕ
place_count m r w p = count m (λ h. cond (r h) (not (is_zero (w h p))) false)

-- the product of the others in its row and the others at its place
abbrev pub cost_in : ℕ → (ℕ → Bool) → (ℕ → Bool) → (ℕ → ℕ → Fraction) → ℕ → ℕ → ℕ
cost_in m r c w i p = (row_count m c w i - 1) * (place_count m r w p - 1)

-- ---- the rule as a property

-- less cost, then the smaller place, then the smaller row, or the pair itself
abbrev pub IsAhead : (ℕ → ℕ → ℕ) → ℕ → ℕ → ℕ → ℕ → Type 0
IsAhead cost j q i p = (cost j q < cost i p) ⊎ ((cost j q ≡ cost i p) × ((q < p) ⊎ ((q ≡ p) × (j ≤ i))))

-- the first of the allowed pairs among those that were seen
pub record IsFirst (allowed : ℕ → ℕ → Bool) (cost : ℕ → ℕ → ℕ) (seen : ℕ → ℕ → Type 0) (q : Pivot) : Type 0 where
  pub among : seen q.row q.place
  pub may : T (allowed q.row q.place)
  pub ahead : (i p : ℕ) → seen i p → T (allowed i p) → IsAhead cost q.row q.place i p

-- the first allowed pair, or no pair where none is allowed
abbrev pub IsFound : (ℕ → ℕ → Bool) → (ℕ → ℕ → ℕ) → (ℕ → ℕ → Type 0) → Option Pivot → Type 0
IsFound allowed cost seen None = (i p : ℕ) → seen i p → T (allowed i p) → ⊥
IsFound allowed cost seen (Some q) = IsFirst allowed cost seen q

abbrev pub IsInside : ℕ → ℕ → ℕ → Type 0
IsInside m i p = (i < m) × (p < m)

-- ---- and as a search

abbrev pub better : Bool → (ℕ → ℕ → ℕ) → Option Pivot → ℕ → ℕ → Option Pivot
better false cost best i p = best
better true cost None i p = Some (record { row = i; place = p })
better true cost (Some q) i p = cond (ltb (cost i p) (cost q.row q.place)) (Some (record { row = i; place = p })) (Some q)

abbrev pub in_column : (ℕ → ℕ → Bool) → (ℕ → ℕ → ℕ) → ℕ → ℕ → Option Pivot → Option Pivot
in_column allowed cost zero p best = best
in_column allowed cost (suc i) p best = better (allowed i p) cost (in_column allowed cost i p best) i p

-- the first allowed pair of m rows and n places
abbrev pub least : (ℕ → ℕ → Bool) → (ℕ → ℕ → ℕ) → ℕ → ℕ → Option Pivot
least allowed cost m zero = None
least allowed cost m (suc p) = in_column allowed cost m p (least allowed cost m p)

-- the pivot of the active part of a matrix with m rows and m places
unfoldable pub pivot : ℕ → (ℕ → Bool) → (ℕ → Bool) → (ℕ → ℕ → Fraction) → Option Pivot
pivot m r c w = least (allowed_in r c w) (cost_in m r c w) m m

abbrev pub at_pivot : {A : Type 0} → Option Pivot → A → (ℕ → ℕ → A) → A
at_pivot None x f = x
at_pivot (Some q) x f = f q.row q.place
