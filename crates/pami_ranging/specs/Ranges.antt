-- Ranges: how far one cost, or the bound at which one variable stands, may be moved while a basis with its stands stays
-- what it is. Each is a set, told by the form with that one number changed; nothing is updated.
use Rattle.std.specs.Prelude.{◌≡◌, ℕ, ◌<◌, ◌⊎◌, length, set, Some}
use Rattle.pami_algebra.specs.Fraction.{Fraction}
use Rattle.pami_theory.specs.Form.{Form, variables, limits, IsWithin}
use Rattle.pami_frac.specs.declared.list.Bounds.{Bounds}
use Rattle.pami_theory.specs.Basis.{Basis, head_at, stand_at, IsBasis}
use Rattle.pami_theory.specs.declared.words.Stand.{Stand}
use Rattle.pami_theory.specs.declared.words.Stand.TheVariants.{Basic, Lower, Upper, Zero}
use Rattle.pami_theory.specs.Fresh.{AreValues, IsDualFeasible, Fresh, value_at_place, IsFresh}

-- ---- costs

-- the form with the cost c at column j
abbrev pub with_cost : Form → ℕ → Fraction → Form
with_cost f j c = record { rows = f.rows; columns = f.columns; entries = f.entries; bounds = f.bounds; costs = set f.costs j c }

-- the set of costs of column j with which the basis with its stands is dual feasible
abbrev pub KeepsDualFeasible : Form → Basis → ℕ → Fraction → Type 0
KeepsDualFeasible f b j c = IsDualFeasible (with_cost f j c) b

-- ---- bounds

-- the limits with another value for the bound at which a variable stands so; the other bound is left
abbrev pub with_stand : Bounds → Stand → Fraction → Bounds
with_stand l Basic value = l
with_stand l Lower value = record { low = Some value; high = l.high }
with_stand l Upper value = record { low = l.low; high = Some value }
with_stand l Zero value = l

-- the form with this value for the bound at which v stands
abbrev pub with_bound : Form → Basis → ℕ → Fraction → Form
with_bound f b v value = record {
  rows = f.rows;
  columns = f.columns;
  entries = f.entries;
  bounds = set f.bounds v (with_stand (limits f v) (stand_at b v) value);
  costs = f.costs;
}

-- all basic variables are within their bounds where the others stand
pub record IsPrimalFeasible (f : Form) (b : Basis) : Type 0 where
  pub x : ℕ → Fraction
  pub values : AreValues f b x
  pub within : (p : ℕ) → p < f.rows → IsWithin (limits f (head_at b p)) (x (head_at b p))

-- the set of values of the bound at which v stands, with which all basic variables are within their bounds
abbrev pub KeepsPrimalFeasible : Form → Basis → ℕ → Fraction → Type 0
KeepsPrimalFeasible f b v value = IsPrimalFeasible (with_bound f b v value) b

-- ---- premises

-- at a bound of its own
abbrev pub IsAtBound : Stand → Type 0
IsAtBound s = (s ≡ Lower) ⊎ (s ≡ Upper)

-- what ranges of costs are of: a regular basis that is dual feasible, with all that is solved there
pub record IsReadyForCosts (f : Form) (b : Basis) (s : Fresh) : Type 0 where
  pub basis : IsBasis f b
  pub fresh : IsFresh f b s
  pub feasible : IsDualFeasible f b
  pub costs_by_column : length f.costs ≡ f.columns

-- what ranges of bounds are of: a basis whose basic variables are within their bounds, with all that is solved there
pub record IsReadyForBounds (f : Form) (b : Basis) (s : Fresh) : Type 0 where
  pub basis : IsBasis f b
  pub fresh : IsFresh f b s
  pub within : (p : ℕ) → p < f.rows → IsWithin (limits f (head_at b p)) (value_at_place b s p)
  pub bounds_by_variable : length f.bounds ≡ variables f
