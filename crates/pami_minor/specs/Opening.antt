-- A Minor at the start of its batch.
use Rattle.std.specs.Prelude.{◌≡◌, ℕ, ◌+◌, ◌<◌, ◌≤◌, ◌^◌, List, [], length, map, take, drop, None, slice_index_or}
use Rattle.pami_linear.specs.Lists.{get}
use Rattle.pami_script.specs.Dense.{dense}
use Rattle.pami_theory.specs.Form.{Form}
use Rattle.pami_theory.specs.Basis.{IsBasis}
use Rattle.pami_theory.specs.Fresh.{Fresh}
use Rattle.pami_theory.specs.Weights.{weight_at}
use Rattle.pami_theory.specs.Choice.{chosen}
use Rattle.pami_method.specs.Batch.{Reached, places}
use Rattle.pami_devex.specs.Weights.{AreWeights}
use Rattle.pami_chuzr.specs.Choice.{chosen_row}
use Rattle.pami_chuzr.specs.declared.row.ChosenRow.{ChosenRow}
use Rattle.pami_form.specs.declared.form.Form.{Form as ProgramForm}
use Rattle.pami_state.specs.State.{basis_of, IsSolvedAfresh}
use Rattle.pami_state.specs.declared.state.State.{State}
use Rattle.pami_minor.specs.declared.kept.Kept.{Kept}
use Rattle.pami_minor.specs.declared.minor.Minor.{Minor}
use Rattle.pami_form.specs.FormOf.{form_of}
use Rattle.pami_minor.specs.Picks.{remaining_of}
use Rattle.pami_minor.specs.Fresh.{IsReached, AreKnownRows, AreFreshRows, IsLimited, HasRoom}

-- a chosen row as it is kept at the start: its row of the inverse isn't known yet
abbrev pub open_by : ProgramForm → State → ChosenRow → Kept
open_by form st row = record {
  merit = row.merit;
  bounds = slice_index_or form.bounds (slice_index_or st.head row.place 0) (record { low = None; high = None });
  at = record { place = row.place; value = get st.values row.place; weight = weight_at st.weights row.place; rho = dense form.rows [] };
}

-- the state is solved afresh, these rows are chosen in it, and so many pivots may be counted
pub record IsOpenable (form : ProgramForm) (st : State) (rows : List ChosenRow) (steps_left : ℕ) : Type 0 where
  pub basis : IsBasis (form_of form) (basis_of st)
  pub solved : IsSolvedAfresh (form_of form) st
  pub weights : length st.weights ≡ length st.head
  pub range : AreWeights st.weights
  pub most : ℕ
  pub chosen_are : rows ≡ map chosen_row (chosen (form_of form) (basis_of st) solved.fresh st.weights most)
  pub few : st.pivots + steps_left < 2 ^ 32

-- what the batch begins with
abbrev pub first_reached : ProgramForm → State → Fresh → ℕ → Reached
first_reached form st s most = record {
  basis = basis_of st;
  fresh = s;
  weights = st.weights;
  count = st.pivots;
  rows = chosen (form_of form) (basis_of st) s st.weights most;
}

-- all is that of the basis at which the batch begins, with the rows of the inverse of the first n chosen places
pub record IsOpening (f : Form) (limit : ℕ) (r : Reached) (n : ℕ) (minor : Minor) : Type 0 where
  pub reached : IsReached f r
  pub head : minor.head.items ≡ r.basis.head
  pub stands : minor.stands.items ≡ r.basis.stands
  pub reduced : minor.reduced.items ≡ r.fresh.reduced
  pub limited : IsLimited limit r.count minor
  pub within : n ≤ length r.rows
  pub fresh_rows : AreFreshRows f r (take n minor.rows.items) (take n r.rows)
  pub known_rows : AreKnownRows f r (map remaining_of (drop n minor.rows.items)) (drop n r.rows)
  pub remaining : minor.remaining.items ≡ places r.rows
  pub room : HasRoom (length r.rows) (length r.rows) minor
