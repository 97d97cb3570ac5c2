-- What an elimination says of its matrix, whatever its pivot rule: systems over the active rows and places, chains of steps.
use Rattle.std.specs.Prelude.{ℕ, ◌≡◌, ◌<◌, ◌≤◌, Bool, true, List, [], ◌∷◌, length, map, All, Contains, Some, Result, Ok, Err}
use Rattle.std.specs.List.{IsDistinct}
use lib.IntN.{pos}
use lib.Dec.{T, eqb}
use Rattle.pami_algebra.specs.Fraction.{Fraction}
use Rattle.pami_algebra.specs.Operations.{◌*ᶠ◌, of_int}
use Rattle.pami_linear.specs.Systems.{by_rows}
use Rattle.pami_linear.specs.Active.{part, but}
use Rattle.pami_linear.specs.Pivoting.{Pivot, pivot}
use Rattle.pami_linear.specs.Elimination.{EliminationStep, multiplier_of, reduced, eliminate}

-- W x = b over the active part: x by place, b by row
pub record Solved (m : ℕ) (r c : ℕ → Bool) (w : ℕ → ℕ → Fraction) (x b : ℕ → Fraction) : Type 0 where
  pub at : (h : ℕ) → h < m → T (r h) → part m c (λ g. w h g *ᶠ x g) ≡ b h

-- v W = d over the active part: v by row, d by place
pub record Across (m : ℕ) (r c : ℕ → Bool) (w : ℕ → ℕ → Fraction) (v d : ℕ → Fraction) : Type 0 where
  pub at : (g : ℕ) → g < m → T (c g) → part m r (λ h. v h *ᶠ w h g) ≡ d g

-- an active entry that isn't 0
pub record IsPivot (m : ℕ) (r c : ℕ → Bool) (w : ℕ → ℕ → Fraction) (i p : ℕ) : Type 0 where
  pub row_low : i < m
  pub row_in : T (r i)
  pub place_low : p < m
  pub place_in : T (c p)
  pub nonzero : ¬ (w i p ≡ of_int (pos 0))

-- two matrices with the same active entries
abbrev pub Agree : ℕ → (ℕ → Bool) → (ℕ → Bool) → (ℕ → ℕ → Fraction) → (ℕ → ℕ → Fraction) → Type 0
Agree m r c u w = (h g : ℕ) → h < m → g < m → T (r h) → T (c g) → u h g ≡ w h g

-- a step is that of its pivot, as far as it is read
pub record IsStep (m : ℕ) (r c : ℕ → Bool) (w : ℕ → ℕ → Fraction) (s : EliminationStep) : Type 0 where
  pub rows : (h : ℕ) → h < m → s.rows h ≡ but s.row r h
  pub places : (g : ℕ) → g < m → s.places g ≡ but s.place c g
  pub kept : (g : ℕ) → g < m → T (c g) → s.kept g ≡ w s.row g
  pub multiplier : (h : ℕ) → h < m → T (but s.row r h) → s.multiplier h ≡ multiplier_of w s.row s.place h

-- steps with pivots that aren't 0, by whatever rule, up to the end
pub data Chain (m : ℕ) : (ℕ → Bool) → (ℕ → Bool) → (ℕ → ℕ → Fraction) → List EliminationStep → Type 0 where
  ended : (r c : ℕ → Bool) (w : ℕ → ℕ → Fraction) → ((h : ℕ) → h < m → T (r h) → ⊥) → ((g : ℕ) → g < m → T (c g) → ⊥) → Chain m r c w []
  goes_on : (r c : ℕ → Bool) (w next : ℕ → ℕ → Fraction) (s : EliminationStep) (ss : List EliminationStep) → IsPivot m r c w s.row s.place → IsStep m r c w s →
      Agree m s.rows s.places next (reduced w s.row s.place) → Chain m s.rows s.places next ss → Chain m r c w (s ∷ ss)

-- a right side with no solution
abbrev pub Unsolved : ℕ → (ℕ → Bool) → (ℕ → Bool) → (ℕ → ℕ → Fraction) → Type 0
Unsolved m r c w = (b : ℕ → Fraction) × ((x : ℕ → Fraction) → Solved m r c w x b → ⊥)

-- what the answer of an elimination says: a chain to the end, or a system that can't be solved
abbrev pub Outcome : ℕ → (ℕ → Bool) → (ℕ → Bool) → (ℕ → ℕ → Fraction) → Result (List EliminationStep) ℕ → Type 0
Outcome m r c w (Ok ss) = Chain m r c w ss
Outcome m r c w (Err p) = Unsolved m r c w

-- the elimination of the columns comes to its end
abbrev pub Completes : ℕ → (ℕ → ℕ → Fraction) → Type 0
Completes m b = (ss : List EliminationStep) × (eliminate m (by_rows b) ≡ Ok ss)

-- ss are the steps of an elimination of the columns b, whatever its pivot rule: a chain from flags that are all set
pub record Eliminates (m : ℕ) (b : ℕ → ℕ → Fraction) (ss : List EliminationStep) : Type 0 where
  pub rows : ℕ → Bool
  pub places : ℕ → Bool
  pub all_rows : (h : ℕ) → h < m → rows h ≡ true
  pub all_places : (g : ℕ) → g < m → places g ≡ true
  pub chain : Chain m rows places (by_rows b) ss

-- an elimination by the rule comes to a point where each active entry is 0, and p is the least place that is active there
pub data Leaves (m : ℕ) : (ℕ → Bool) → (ℕ → Bool) → (ℕ → ℕ → Fraction) → ℕ → Type 0 where
  stuck : (r c : ℕ → Bool) (w : ℕ → ℕ → Fraction) (p : ℕ) → ((h g : ℕ) → h < m → g < m → T (r h) → T (c g) → w h g ≡ of_int (pos 0)) →
      p < m → T (c p) → ((g : ℕ) → g < m → T (c g) → p ≤ g) → Leaves m r c w p
  passed : (r c : ℕ → Bool) (w : ℕ → ℕ → Fraction) (q : Pivot) (p : ℕ) → pivot m r c w ≡ Some q → Leaves m (but q.row r) (but q.place c) (reduced w q.row q.place) p → Leaves m r c w p

-- the rows of the pivots, one for each step, and their places
abbrev pub pivot_rows : List EliminationStep → List ℕ
pivot_rows ss = map (λ s. s.row) ss

abbrev pub pivot_places : List EliminationStep → List ℕ
pivot_places ss = map (λ s. s.place) ss

-- each number below m stands in the list exactly once, and no other
pub record Permutes (m : ℕ) (ns : List ℕ) : Type 0 where
  pub count : length ns ≡ m
  pub below : All (λ n. n < m) ns
  pub distinct : IsDistinct eqb ns
  pub each : (n : ℕ) → n < m → Contains ns n
