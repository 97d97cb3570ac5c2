-- Tables and entries that are those of a form, a basis and a row that leaves.
use Rattle.std.specs.Prelude.{◌≡◌, ℕ, ◌<◌, List, cond}
use Rattle.pami_frac.specs.declared.list.Entry.{Entry}
use Rattle.pami_linear.specs.Lists.{get}
use Rattle.pami_script.specs.Dense.{at, Rising}
use Rattle.pami_theory.specs.Form.{Form, variables, limits, IsUncrossed, zero_f}
use Rattle.pami_theory.specs.Basis as theory
use Rattle.pami_theory.specs.Violation as outside
use Rattle.pami_theory.specs.Ratio.{Leaving, row_entry}
use Rattle.pami_method.specs.Scripts.{is_nonbasic}
use Rattle.pami_bfrt.specs.Candidates.{Table, stand_at, bounds_at, width_at}

-- each variable stands so, has these bounds, which aren't crossed, its width where it is boxed, and its reduced cost
pub record IsTable (f : Form) (b : theory.Basis) (l : Leaving) (t : Table) : Type 0 where
  pub stand : (v : ℕ) → v < variables f → theory.stand_at b v ≡ stand_at t v
  pub bounds : (v : ℕ) → v < variables f → limits f v ≡ bounds_at t v
  pub uncrossed : (v : ℕ) → v < variables f → IsUncrossed (limits f v)
  pub width : (v : ℕ) → v < variables f → width_at t v ≡ outside.width (limits f v)
  pub reduced : (v : ℕ) → v < variables f → get t.reduced v ≡ get l.reduced v

-- the entries of the pivot row at the nonbasic variables, ascending, but for entries 0
pub record AreRowEntries (f : Form) (b : theory.Basis) (l : Leaving) (alpha : List Entry) : Type 0 where
  pub rising : Rising 0 (variables f) alpha
  pub value : (v : ℕ) → v < variables f → at alpha v ≡ cond (is_nonbasic (theory.stand_at b v)) (row_entry f l.row v) zero_f
