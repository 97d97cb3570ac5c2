-- The search for a pivot, with the counts of the rows and the cost of the best pair kept.
use Rattle.std.specs.Prelude.{◌≡◌, ◌≤◌, ℕ, List, length, not, true, Option, Some, None}
use Rattle.pami_algebra.specs.Fraction.{Fraction}
use Rattle.pami_algebra.specs.Operations.{is_zero}
use Rattle.pami_linear.specs.Active.{count}
use Rattle.pami_linear.specs.Lists.{get}
use Rattle.pami_factoring.specs.Factor.{entry}
use Rattle.pami_linear.specs.Pivoting.{Pivot, cost_in}
use Rattle.pami_lu.specs.declared.search.Found.{Found}

-- the pair that was found
abbrev pub pivot_of : Option Found → Option Pivot
pivot_of None = None
pivot_of (Some f) = Some (record { row = f.row; place = f.place })

-- the best pair, with its cost
abbrev pub Cached : (ℕ → ℕ → ℕ) → Option Found → Option Pivot → Type 0
Cached cost None None = Unit {0}
Cached cost None (Some q) = ⊥
Cached cost (Some f) None = ⊥
Cached cost (Some f) (Some q) = (f.row ≡ q.row) × (f.place ≡ q.place) × (f.cost ≡ cost q.row q.place)

-- the best pair so far costs no more than this
abbrev pub CostsNoLess : Option Found → ℕ → Type 0
CostsNoLess None c = ⊥
CostsNoLess (Some f) c = f.cost ≤ c

-- how many of the first m members of a row aren't 0
abbrev pub filled : ℕ → List Fraction → ℕ
filled m row = count m (λ g. not (is_zero (get row g)))

-- the cost of a pair, where all is active
abbrev pub cost_at : List (List Fraction) → ℕ → ℕ → ℕ
cost_at rows = cost_in (length rows) (λ h. true) (λ g. true) (entry rows)
