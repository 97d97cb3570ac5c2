-- The computational form of a linear program: minimise c x where A x - r = 0 and each value is within its bounds.
-- Variables 0 .. columns-1 are the columns, and columns+i is the row variable of row i (its value is r_i).
use Rattle.std.specs.Prelude.{◌≡◌, ℕ, ◌+◌, ◌-◌, ◌<◌, List, [], Option, None, Some, if◌then◌else◌, nat_eq, nat_lt, slice_index_or}
use lib.IntN.{pos}
use Rattle.pami_algebra.specs.Fraction.{Fraction}
use Rattle.pami_algebra.specs.Operations.{of_int, neg_f, ◌≤ᶠ◌}
use Rattle.pami_frac.specs.declared.list.Bounds.{Bounds}
use Rattle.pami_linear.specs.Lists.{get}
use Rattle.pami_linear.specs.Sums.{dot}

abbrev pub zero_f : Fraction
zero_f = of_int (pos 0)

pub record Form : Type 0 where
  pub rows : ℕ
  pub columns : ℕ
  pub entries : List (List Fraction)  -- by column, then by row
  pub bounds : List Bounds  -- by variable
  pub costs : List Fraction  -- by column, as minimised

-- the entry of row i in column j
abbrev pub entry : Form → ℕ → ℕ → Fraction
entry f i j = get (slice_index_or f.entries j []) i

-- the bounds of a variable
abbrev pub limits : Form → ℕ → Bounds
limits f v = slice_index_or f.bounds v (record { low = None; high = None })

-- the cost of a column
abbrev pub cost : Form → ℕ → Fraction
cost f j = get f.costs j

abbrev pub variables : Form → ℕ
variables f = f.columns + f.rows

abbrev pub row_variable : Form → ℕ → ℕ
row_variable f i = f.columns + i

-- the coefficient of a variable in a row of [A, -I]
abbrev pub coefficient : Form → ℕ → ℕ → Fraction
coefficient f v i =
    if nat_lt v f.columns then entry f i v else
    if nat_eq (v - f.columns) i then neg_f (of_int (pos 1)) else zero_f

-- the cost of a variable; a row variable has none
abbrev pub cost_of : Form → ℕ → Fraction
cost_of f v = if nat_lt v f.columns then cost f v else zero_f

-- values of all variables with A x - r = 0
pub record IsPoint (f : Form) (x : ℕ → Fraction) : Type 0 where
  pub at : (i : ℕ) → i < f.rows → dot (variables f) (λ v. coefficient f v i) x ≡ zero_f

-- neither below the lower bound nor above the upper one
pub record IsWithin (l : Bounds) (value : Fraction) : Type 0 where
  pub above_low : (low : Fraction) → l.low ≡ Some low → low ≤ᶠ value
  pub below_high : (high : Fraction) → l.high ≡ Some high → value ≤ᶠ high

-- the lower bound isn't above the upper one
pub record IsUncrossed (l : Bounds) : Type 0 where
  pub ordered : (low high : Fraction) → l.low ≡ Some low → l.high ≡ Some high → low ≤ᶠ high

-- a point with each value within its bounds
pub record IsFeasible (f : Form) (x : ℕ → Fraction) : Type 0 where
  pub point : IsPoint f x
  pub within : (v : ℕ) → v < variables f → IsWithin (limits f v) (x v)
