-- What a state keeps: its basis, and the values and reduced costs that are solved at that basis.
use Rattle.std.specs.Prelude.{◌≡◌, ℕ, ◌<◌, List, length, map}
use Rattle.std.specs.List.{range_with_len}
use Rattle.pami_algebra.specs.Fraction.{Fraction}
use Rattle.pami_linear.specs.Lists.{get}
use Rattle.pami_theory.specs.declared.words.Stand.{Stand}
use Rattle.pami_frac.specs.declared.list.Bounds.{Bounds}
use Rattle.pami_theory.specs.Form.{Form, limits}
use Rattle.pami_theory.specs.Basis.{Basis, stand_at}
use Rattle.pami_theory.specs.Fresh.{Fresh, IsFresh, IsFixed, IsSignedFor, value_at_place}
use Rattle.pami_state.specs.declared.state.State.{State}
use Rattle.pami_state.specs.Columns.{bounds_form}

abbrev pub basis_of : State → Basis
basis_of st = record { head = st.head; stands = st.stands }

-- the values of the basis by place, where s is solved there
abbrev pub values_by_place : Form → Basis → Fresh → List Fraction
values_by_place f b s = map (value_at_place b s) (range_with_len 0 f.rows)

-- the values, by place, and the reduced costs, by variable, are those that the basis has
pub record IsSolvedAfresh (f : Form) (st : State) : Type 0 where
  pub fresh : Fresh
  pub solved : IsFresh f (basis_of st) fresh
  pub values : st.values ≡ values_by_place f (basis_of st) fresh
  pub reduced : st.reduced ≡ fresh.reduced

-- a reduced cost has the sign that its variable's stand asks for, unless the limits fix the variable
abbrev pub SignedBy : Bounds → Stand → Fraction → Type 0
SignedBy l stand d = ¬ IsFixed l → IsSignedFor stand d

abbrev pub IsSignedAt : List Bounds → State → ℕ → Type 0
IsSignedAt bounds st v = SignedBy (limits (bounds_form 0 bounds) v) (stand_at (basis_of st) v) (get st.reduced v)

-- and so each variable of the bounds
pub record HasSigns (bounds : List Bounds) (st : State) : Type 0 where
  pub at : (v : ℕ) → v < length bounds → IsSignedAt bounds st v
