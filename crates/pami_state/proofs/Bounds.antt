-- The limits of a variable, as they are read from a list of bounds.
use Rattle.std.proofs.Common.{◌≡◌, ℕ, ◌<◌, List, length, get_or, sym, ap, ◌∙◌, None}
use Rattle.std.proofs.lemmas.List.{get_or_default}
use Rattle.pami_frac.specs.declared.list.Bounds.{Bounds}
use Rattle.pami_theory.specs.Form.{Form, limits}
use Rattle.pami_state.specs.Columns.{bounds_form, HasBounds}

-- of the variable whose bounds were read
pub bounds_read : (bounds : List Bounds) (v : ℕ) (x d : Bounds) → v < length bounds → x ≡ get_or bounds v x → get_or bounds v d ≡ x
bounds_read bounds v x d l e = get_or_default bounds v d x l ∙ sym e

-- of a form with these bounds
pub limits_of_form : (f : Form) (bounds : List Bounds) (rows v : ℕ) → HasBounds f bounds → limits f v ≡ limits (bounds_form rows bounds) v
limits_of_form f bounds rows v e = ap (λ (ls : List Bounds). get_or ls v (record { low = None; high = None })) e.same
