-- Lists of a program that are those of a form and of a basis that is solved.
use Rattle.std.specs.Prelude.{◌≡◌, ℕ, ◌<◌, List}
use Rattle.pami_algebra.specs.Fraction.{Fraction}
use Rattle.pami_linear.specs.Lists.{get}
use Rattle.pami_frac.specs.declared.list.Bounds.{Bounds}
use Rattle.pami_theory.specs.Form.{Form, variables, limits}
use Rattle.pami_theory.specs.Basis.{Basis}
use Rattle.pami_theory.specs.Fresh.{Fresh, value_at_place}
use Rattle.pami_range.specs.Lists.{bounds_at}

pub record AreListsOf (f : Form) (b : Basis) (s : Fresh) (bounds : List Bounds) (head : List ℕ) (values : List Fraction) : Type 0 where
  pub same_head : head ≡ b.head
  pub bound : (v : ℕ) → v < variables f → (bounds_at bounds v) ≡ limits f v
  pub value : (p : ℕ) → p < f.rows → get values p ≡ value_at_place b s p
