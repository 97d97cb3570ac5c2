-- The values and reduced costs of a basis, by the equations that they solve (Koberstein 2005, chapter 2).
use Rattle.std.specs.Prelude.{◌≡◌, ℕ, ◌<◌, ◌⊎◌, List, [], length, Some, slice_index_or}
use Rattle.pami_algebra.specs.Fraction.{Fraction}
use Rattle.pami_algebra.specs.Operations.{◌-ᶠ◌, ◌≤ᶠ◌, ◌<ᶠ◌}
use Rattle.pami_linear.specs.Lists.{get}
use Rattle.pami_linear.specs.Sums.{dot}
use Rattle.pami_linear.specs.Systems.{Solves, IsRow}
use Rattle.pami_frac.specs.declared.list.Bounds.{Bounds}
use Rattle.pami_theory.specs.Form.{Form, variables, limits, row_variable, coefficient, cost_of, IsPoint, zero_f}
use Rattle.pami_theory.specs.declared.words.Stand.{Stand}
use Rattle.pami_theory.specs.declared.words.Stand.TheVariants.{Basic, Lower, Upper, Zero}
use Rattle.pami_theory.specs.Basis.{Basis, head_at, stand_at, StandsAt, basis_column}
use Rattle.pami_theory.specs.Violation.{value_or_zero}

-- B x_B = - N x_N: a point in which each nonbasic variable has the value at which it stands
pub record AreValues (f : Form) (b : Basis) (x : ℕ → Fraction) : Type 0 where
  pub point : IsPoint f x
  pub nonbasic : (v : ℕ) → v < variables f → StandsAt (limits f v) (stand_at b v) (x v)

-- the value at which a nonbasic variable stands; 0 for a basic one
abbrev pub standing_value : Bounds → Stand → Fraction
standing_value l Basic = zero_f
standing_value l Lower = value_or_zero l.low
standing_value l Upper = value_or_zero l.high
standing_value l Zero = zero_f

-- N x_N: what the nonbasic variables come to in row i
abbrev pub nonbasic_sum : Form → Basis → ℕ → Fraction
nonbasic_sum f b i = dot (variables f) (λ v. coefficient f v i) (λ v. standing_value (limits f v) (stand_at b v))

-- y B = c_B and d = c - y [A, -I]: y goes by row, d by variable
pub record AreReducedCosts (f : Form) (b : Basis) (y d : ℕ → Fraction) : Type 0 where
  pub basic : (p : ℕ) → p < f.rows → dot f.rows y (coefficient f (head_at b p)) ≡ cost_of f (head_at b p)
  pub reduced : (v : ℕ) → v < variables f → d v ≡ cost_of f v -ᶠ dot f.rows y (coefficient f v)

-- both bounds are finite and equal
abbrev pub IsFixed : Bounds → Type 0
IsFixed l = (value : Fraction) × (l.low ≡ Some value) × (l.high ≡ Some value)

-- the sign that a reduced cost has where its variable stands
abbrev pub IsSignedFor : Stand → Fraction → Type 0
IsSignedFor Basic d = Unit {0}
IsSignedFor Lower d = zero_f ≤ᶠ d
IsSignedFor Upper d = d ≤ᶠ zero_f
IsSignedFor Zero d = d ≡ zero_f

-- the basis is dual feasible: the reduced cost of each nonbasic variable that isn't fixed has the sign of its stand
pub record IsDualFeasible (f : Form) (b : Basis) : Type 0 where
  pub y : ℕ → Fraction
  pub d : ℕ → Fraction
  pub costs : AreReducedCosts f b y d
  pub signed : (v : ℕ) → v < variables f → ¬ IsFixed (limits f v) → IsSignedFor (stand_at b v) (d v)

-- a value above its upper or below its lower bound
abbrev pub IsOutside : Bounds → Fraction → Type 0
IsOutside l value = ((high : Fraction) × (l.high ≡ Some high) × (high <ᶠ value)) ⊎ ((low : Fraction) × (l.low ≡ Some low) × (value <ᶠ low))

-- the basic variable of this place is outside of its bounds
abbrev pub IsInfeasible : Form → Basis → (ℕ → Fraction) → ℕ → Type 0
IsInfeasible f b x p = IsOutside (limits f (head_at b p)) (x (head_at b p))

-- some place is infeasible
abbrev pub HasInfeasible : Form → Basis → (ℕ → Fraction) → Type 0
HasInfeasible f b x = (p : ℕ) × (p < f.rows) × IsInfeasible f b x p

-- all that is solved at one basis
pub record Fresh : Type 0 where
  pub values : List Fraction  -- by variable
  pub reduced : List Fraction  -- reduced costs, by variable
  pub rows : List (List Fraction)  -- by place: its row of the inverse, which goes by row
  pub columns : List (List Fraction)  -- by variable: the inverse times its column, by place

-- the row of a place, by row
abbrev pub row_at : Fresh → ℕ → List Fraction
row_at s p = slice_index_or s.rows p []

-- the inverse times the column of a variable, by place
abbrev pub column_at : Fresh → ℕ → List Fraction
column_at s v = slice_index_or s.columns v []

-- the value of the variable at a place
abbrev pub value_at_place : Basis → Fresh → ℕ → Fraction
value_at_place b s p = get s.values (head_at b p)

-- solved at the basis b: B x_B = - N x_N, d = c - y A with y B = c_B, rho B = e_p for each place, B alpha = a_v for
-- each variable
pub record IsFresh (f : Form) (b : Basis) (s : Fresh) : Type 0 where
  pub values_by_variable : length s.values ≡ variables f
  pub values : AreValues f b (get s.values)
  pub reduced_by_variable : length s.reduced ≡ variables f
  pub reduced : AreReducedCosts f b (λ i. get s.reduced (row_variable f i)) (get s.reduced)
  pub rows_by_place : length s.rows ≡ f.rows
  pub row_by_row : (p : ℕ) → p < f.rows → length (row_at s p) ≡ f.rows
  pub row : (p : ℕ) → p < f.rows → IsRow f.rows (basis_column f b) p (get (row_at s p))
  pub columns_by_variable : length s.columns ≡ variables f
  pub column_by_place : (v : ℕ) → v < variables f → length (column_at s v) ≡ f.rows
  pub column : (v : ℕ) → v < variables f → Solves f.rows (basis_column f b) (get (column_at s v)) (coefficient f v)
