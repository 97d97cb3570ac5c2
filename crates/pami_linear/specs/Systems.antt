-- Square systems over fractions. `b k i` is the entry of row i in the column at place k; m is the count of rows and of
-- places. A vector is a function of the row or of the place, whichever its comment says.
use Rattle.std.specs.Prelude.{◌≡◌, ℕ, ◌<◌, cond}
use lib.Dec.{eqb}
use Rattle.pami_algebra.specs.Fraction.{Fraction}
use Rattle.pami_algebra.specs.Operations.{◌+ᶠ◌, ◌*ᶠ◌, neg_f}
use Rattle.pami_linear.specs.Sums.{sum_to, dot, unit}

-- B x = r: the columns, each times its factor, add up to r; x goes by place, r by row
pub record Solves (m : ℕ) (b : ℕ → ℕ → Fraction) (x r : ℕ → Fraction) : Type 0 where
  pub at : (i : ℕ) → i < m → sum_to m (λ k. b k i *ᶠ x k) ≡ r i

-- y B = d: y goes by row, d by place
pub record Combines (m : ℕ) (b : ℕ → ℕ → Fraction) (y d : ℕ → Fraction) : Type 0 where
  pub at : (k : ℕ) → k < m → dot m y (b k) ≡ d k

-- the matrix of the columns, by row and then by place
abbrev pub by_rows : (ℕ → ℕ → Fraction) → ℕ → ℕ → Fraction
by_rows b h g = b g h

-- rho B = e_p: the row of place p
abbrev pub IsRow : ℕ → (ℕ → ℕ → Fraction) → ℕ → (ℕ → Fraction) → Type 0
IsRow m b p rho = Combines m b rho (unit p)

-- B V = I: v j is the column j of V
pub record IsInverse (m : ℕ) (b v : ℕ → ℕ → Fraction) : Type 0 where
  pub at : (j : ℕ) → j < m → Solves m b (v j) (unit j)

-- V B = I
pub record IsLeftInverse (m : ℕ) (b v : ℕ → ℕ → Fraction) : Type 0 where
  pub at : (p k : ℕ) → p < m → k < m → sum_to m (λ i. v i p *ᶠ b k i) ≡ unit p k

-- the columns are those of an invertible matrix
abbrev pub IsRegular : ℕ → (ℕ → ℕ → Fraction) → Type 0
IsRegular m b = (v : ℕ → ℕ → Fraction) × IsInverse m b v

-- the columns with c at place p
abbrev pub replaced : (ℕ → ℕ → Fraction) → ℕ → (ℕ → Fraction) → ℕ → ℕ → Fraction
replaced b p c k = cond (eqb p k) c (b k)

-- the solution x of a system by the columns b, turned into that of the same right side by `replaced b p c`, where alpha is
-- the solution for c and theta is x p / alpha p
abbrev pub stepped : ℕ → (ℕ → Fraction) → Fraction → (ℕ → Fraction) → ℕ → Fraction
stepped p alpha theta x k = cond (eqb p k) theta (x k +ᶠ neg_f (theta *ᶠ alpha k))
