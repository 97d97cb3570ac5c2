-- A vector of fractions kept as the entries that may differ from 0, by rising place.
use Rattle.std.specs.Prelude.{◌≡◌, ℕ, ◌<◌, ◌≤◌, zero, suc, List, [], ◌∷◌, cond, Result, Ok}
use lib.IntN.{pos}
use lib.Dec.{eqb}
use Rattle.pami_algebra.specs.Fraction.{Fraction}
use Rattle.pami_algebra.specs.Operations.{of_int}
use Rattle.pami_frac.specs.declared.arithmetic.Refused.{Refused}
use Rattle.pami_frac.specs.declared.list.Entry.{Entry}

-- the value at a place, 0 where no entry is there
abbrev pub at : List Entry → ℕ → Fraction
at [] p = of_int (pos 0)
at (e ∷ es) p = cond (eqb e.place p) e.value (at es p)

-- the values at `n` places from `k` on
abbrev pub dense_from : ℕ → ℕ → List Entry → List Fraction
dense_from zero k es = []
dense_from (suc n) k es = at es k ∷ dense_from n (suc k) es

-- the whole vector of length n
unfoldable pub dense : ℕ → List Entry → List Fraction
dense n es = dense_from n 0 es

-- the places rise, from `low` on, below `high`
abbrev pub Rising : ℕ → ℕ → List Entry → Type 0
Rising low high [] = low ≤ high
Rising low high (e ∷ es) = (low ≤ e.place) × (e.place < high) × Rising (suc e.place) high es

-- at the place of each entry the step is the entry's own; at every other place from `low` on, below `high`, it changes nothing
abbrev pub LeavesOut : {A : Type 0} → (ℕ → A → Result A Refused) → (Entry → A → Result A Refused) → ℕ → ℕ → List Entry → Type 0
LeavesOut {A} step own low high [] = (p : ℕ) → low ≤ p → p < high → (a : A) → step p a ≡ Ok a
LeavesOut {A} step own low high (e ∷ es) = ((p : ℕ) → low ≤ p → p < e.place → (a : A) → step p a ≡ Ok a) × ((a : A) → step e.place a ≡ own e a) × LeavesOut step own (suc e.place) high es
