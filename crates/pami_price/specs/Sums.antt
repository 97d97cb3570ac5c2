-- The sums of a slice's variables while the rows of a matrix are added to them one after the other. A sum that is refused
-- ends the work on the sums of its variable and of all later ones.
use Rattle.std.specs.Prelude.{◌≡◌, ℕ, ◌<◌, ◌≤◌, ◌-◌, true, List, length, Option, Some, None, Result, Ok, Err}
use Rattle.pami_algebra.specs.Fraction.{Fraction}
use Rattle.pami_frac.specs.declared.arithmetic.Refused.{Refused}
use Rattle.pami_frac.specs.declared.list.Entry.{Entry}
use Rattle.pami_linear.specs.Lists.{get}
use Rattle.pami_script.specs.Dense.{at, Rising}
use Rattle.pami_script.specs.Script.{then, add_product}
use Rattle.pami_theory.specs.declared.words.Stand.{Stand}
use Rattle.pami_vec.specs.declared.change.Stop.{Stop}
use Rattle.pami_vec.specs.Scripts.{dot_script}
use Rattle.pami_price.specs.Slices.{column_at, is_nonbasic_at}

-- the variables below this one are still summed up, of those below `last`
abbrev pub limit_of : Option Stop → ℕ → ℕ
limit_of None last = last
limit_of (Some stop) last = stop.place

-- a sum of the variables from `first` to below `last` was refused: the outcome of that variable is this refusal
abbrev pub IsStop : List Stand → ℕ → ℕ → (ℕ → Result Fraction Refused) → Option Stop → Type 0
IsStop stands first last outcome None = Unit {0}
IsStop stands first last outcome (Some stop) = (first ≤ stop.place) × (stop.place < last) × (is_nonbasic_at stands stop.place ≡ true) × (outcome stop.place ≡ Err stop.refused)

-- the nonbasic variables from `first` to below `last` that are still summed up: the outcome of each is what the rest of the
-- work makes of its sum
pub record AreSums (stands : List Stand) (first last : ℕ) (rest : ℕ → Fraction → Result Fraction Refused) (outcome : ℕ → Result Fraction Refused) (sums : List Fraction) (stop : Option Stop) : Type 0 where
  pub sum : (v : ℕ) → first ≤ v → v < limit_of stop last → is_nonbasic_at stands v ≡ true → outcome v ≡ rest v (get sums (v - first))
  pub stopped : IsStop stands first last outcome stop

-- the rest of the work before this row of the matrix is added, each entry times the factor
abbrev pub with_row : Fraction → List Entry → (ℕ → Fraction → Result Fraction Refused) → ℕ → Fraction → Result Fraction Refused
with_row factor es rest v t = then (add_product t factor (at es v)) (rest v)

-- the sums of the nonbasic variables from `first` to below `last` over all rows, and the least variable whose sum is refused
abbrev pub AreSliceSums : List (List Fraction) → List Stand → List Fraction → ℕ → ℕ → List Fraction → Option Stop → Type 0
AreSliceSums columns stands rho first last sums stop = AreSums stands first last (λ v t. Ok t) (λ v. dot_script rho (column_at columns v)) sums stop

-- the entries from place `first` on
pub record AreFrom (first high : ℕ) (all es : List Entry) : Type 0 where
  pub rising : Rising first high es
  pub same : (v : ℕ) → first ≤ v → at es v ≡ at all v
