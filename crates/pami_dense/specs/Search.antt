-- The search for a pivot, with the cost of the best pair kept.
use Rattle.std.specs.Prelude.{◌≡◌, ℕ, Bool, length, Option, Some, None}
use Rattle.pami_linear.specs.Pivoting.{Pivot, pivot, allowed_in, row_count, place_count, cost_in}
use Rattle.pami_factoring.specs.Factor.{flag, entry}
use Rattle.pami_dense.specs.declared.rest.Rest.{Rest}
use Rattle.pami_dense.specs.declared.search.Found.{Found}

-- which pairs may be pivots
abbrev pub allowed : Rest → ℕ → ℕ → Bool
allowed r = allowed_in (flag r.active.items) (flag r.places.items) (entry r.rows.items)

-- the entries of a row at active places, and those at a place in active rows, that aren't 0
abbrev pub count_across : Rest → ℕ → ℕ
count_across r = row_count (length r.rows.items) (flag r.places.items) (entry r.rows.items)

abbrev pub count_down : Rest → ℕ → ℕ
count_down r = place_count (length r.rows.items) (flag r.active.items) (entry r.rows.items)

-- at which cost a pair is one
abbrev pub cost_at : Rest → ℕ → ℕ → ℕ
cost_at r = cost_in (length r.rows.items) (flag r.active.items) (flag r.places.items) (entry r.rows.items)

-- the one of what is left
abbrev pub pivot_in : Rest → Option Pivot
pivot_in r = pivot (length r.rows.items) (flag r.active.items) (flag r.places.items) (entry r.rows.items)

-- the pair that was found
abbrev pub pivot_of : Option Found → Option Pivot
pivot_of None = None
pivot_of (Some f) = Some (record { row = f.row; place = f.place })

-- the best pair, with its cost
abbrev pub Cached : (ℕ → ℕ → ℕ) → Option Found → Option Pivot → Type 0
Cached cost None None = Unit {0}
Cached cost None (Some q) = ⊥
Cached cost (Some f) None = ⊥
Cached cost (Some f) (Some q) = (f.row ≡ q.row) × (f.place ≡ q.place) × (f.cost ≡ cost q.row q.place)
