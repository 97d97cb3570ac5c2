-- Bases: which variable is basic at each place, and where each other variable stands.
use Rattle.std.specs.Prelude.{◌≡◌, ℕ, ◌<◌, List, length, None, Some, slice_index_or}
use Rattle.pami_algebra.specs.Fraction.{Fraction}
use Rattle.pami_linear.specs.Systems.{IsRegular}
use Rattle.pami_theory.specs.declared.words.Stand.{Stand}
use Rattle.pami_theory.specs.declared.words.Stand.TheVariants.{Basic, Lower, Upper, Zero}
use Rattle.pami_frac.specs.declared.list.Bounds.{Bounds}
use Rattle.pami_theory.specs.Form.{Form, variables, limits, coefficient, zero_f}

pub record Basis : Type 0 where
  pub head : List ℕ  -- by place: the variable there; places are 0 .. rows-1
  pub stands : List Stand  -- by variable

-- the variable at a place
abbrev pub head_at : Basis → ℕ → ℕ
head_at b p = slice_index_or b.head p 0

-- where a variable stands
abbrev pub stand_at : Basis → ℕ → Stand
stand_at b v = slice_index_or b.stands v Zero

-- the bound at which a variable may stand so, and its value there
abbrev pub StandsAt : Bounds → Stand → Fraction → Type 0
StandsAt l Basic value = Unit {0}
StandsAt l Lower value = l.low ≡ Some value
StandsAt l Upper value = l.high ≡ Some value
StandsAt l Zero value = (l.low ≡ None) × (l.high ≡ None) × (value ≡ zero_f)

-- distinct variables, Basic exactly at a place, the others at a bound that they have, or at 0 where they have none
pub record IsBasis (f : Form) (b : Basis) : Type 0 where
  pub places : length b.head ≡ f.rows
  pub variables_stand : length b.stands ≡ variables f
  pub within : (p : ℕ) → p < f.rows → head_at b p < variables f
  pub distinct : (p q : ℕ) → p < f.rows → q < f.rows → head_at b p ≡ head_at b q → p ≡ q
  pub basic : (p : ℕ) → p < f.rows → stand_at b (head_at b p) ≡ Basic
  pub placed : (v : ℕ) → v < variables f → stand_at b v ≡ Basic → (p : ℕ) × (p < f.rows) × (head_at b p ≡ v)
  pub stands : (v : ℕ) → v < variables f → (value : Fraction) × StandsAt (limits f v) (stand_at b v) value

-- the basis matrix: the column of the variable at each place, by row
abbrev pub basis_column : Form → Basis → ℕ → ℕ → Fraction
basis_column f b p = coefficient f (head_at b p)

-- the basis matrix has an inverse
abbrev pub IsRegularBasis : Form → Basis → Type 0
IsRegularBasis f b = IsRegular f.rows (basis_column f b)
