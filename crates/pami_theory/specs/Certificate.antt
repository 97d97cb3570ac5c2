-- What a certificate says, against the form of a model alone: no basis stands in it.
use Rattle.std.specs.Prelude.{◌≡◌, ℕ, ◌<◌, Option, None, Some}
use Rattle.pami_algebra.specs.Fraction.{Fraction}
use Rattle.pami_algebra.specs.Operations.{◌+ᶠ◌, ◌-ᶠ◌, ◌*ᶠ◌, neg_f, ◌≤ᶠ◌, ◌<ᶠ◌}
use Rattle.pami_linear.specs.Sums.{sum_to, dot}
use Rattle.pami_frac.specs.declared.list.Bounds.{Bounds}
use Rattle.pami_theory.specs.Form.{Form, variables, limits, entry, coefficient, cost, cost_of, row_variable, IsPoint, IsFeasible, zero_f}

-- a positive reduced cost only at a finite lower bound, a negative one only at a finite upper bound
pub record IsComplementary (l : Bounds) (value d : Fraction) : Type 0 where
  pub positive : zero_f <ᶠ d → l.low ≡ Some value
  pub negative : d <ᶠ zero_f → l.high ≡ Some value

-- values x of all variables and reduced costs d of all variables (that of the row variable of row i is y_i):
-- a point of the file, d = c - y A, and complementary signs
pub record HoldsOptimal (f : Form) (x d : ℕ → Fraction) : Type 0 where
  pub feasible : IsFeasible f x
  pub reduced : (j : ℕ) → j < f.columns → d j ≡ cost f j -ᶠ dot f.rows (λ i. d (row_variable f i)) (λ i. entry f i j)
  pub complementary : (v : ℕ) → v < variables f → IsComplementary (limits f v) (x v) (d v)

-- t is the least value of k times a value within the limits
abbrev pub IsLeastProduct : Bounds → Fraction → Fraction → Type 0
IsLeastProduct l k t =
    (zero_f <ᶠ k → (low : Fraction) × (l.low ≡ Some low) × (t ≡ k *ᶠ low))
    × (k <ᶠ zero_f → (high : Fraction) × (l.high ≡ Some high) × (t ≡ k *ᶠ high))
    × (k ≡ zero_f → t ≡ zero_f)

-- y by row: the sum of y_i r_i - (y A)_j x_j is 0 at each point, and its least value within the bounds is above 0
pub record HoldsInfeasible (f : Form) (y : ℕ → Fraction) : Type 0 where
  pub least : ℕ → Fraction
  pub finite : (v : ℕ) → v < variables f → IsLeastProduct (limits f v) (neg_f (dot f.rows y (coefficient f v))) (least v)
  pub positive : zero_f <ᶠ sum_to (variables f) least

-- d = c - y [A, -I], above 0 only where there is a lower bound and below 0 only where there is an upper one: a point of
-- the dual program, y by row and d by variable
pub record IsDualPoint (f : Form) (y d : ℕ → Fraction) : Type 0 where
  pub reduced : (v : ℕ) → v < variables f → d v ≡ cost_of f v -ᶠ dot f.rows y (coefficient f v)
  pub low : (v : ℕ) → v < variables f → zero_f <ᶠ d v → (bound : Fraction) × ((limits f v).low ≡ Some bound)
  pub high : (v : ℕ) → v < variables f → d v <ᶠ zero_f → (bound : Fraction) × ((limits f v).high ≡ Some bound)

-- z by variable: a point that stays at or above 0 where there is a lower bound, at or below 0 where there is an upper
-- one, and lowers the cost
pub record HoldsDualInfeasible (f : Form) (z : ℕ → Fraction) : Type 0 where
  pub point : IsPoint f z
  pub low : (v : ℕ) (bound : Fraction) → v < variables f → (limits f v).low ≡ Some bound → zero_f ≤ᶠ z v
  pub high : (v : ℕ) (bound : Fraction) → v < variables f → (limits f v).high ≡ Some bound → z v ≤ᶠ zero_f
  pub falls : dot f.columns (cost f) z <ᶠ zero_f

-- the objective: the constant and the sum of costs times values, with costs in the file's own sense
abbrev pub objective_of : Fraction → ℕ → (ℕ → Fraction) → (ℕ → Fraction) → Fraction
objective_of constant columns cost x = constant +ᶠ dot columns cost x

-- a certificate's objective is that of its values; None where it tells none
abbrev pub HoldsObjective : Fraction → ℕ → (ℕ → Fraction) → (ℕ → Fraction) → Option Fraction → Type 0
HoldsObjective constant columns cost x None = Unit {0}
HoldsObjective constant columns cost x (Some value) = value ≡ objective_of constant columns cost x
