-- A state from which a first batch begins.
use Rattle.std.specs.Prelude.{◌≡◌, length}
use Rattle.pami_theory.specs.Basis.{IsBasis}
use Rattle.pami_devex.specs.Weights.{AreWeights}
use Rattle.pami_form.specs.declared.form.Form.{Form}
use Rattle.pami_form.specs.FormOf.{form_of}
use Rattle.pami_state.specs.State.{basis_of, IsSolvedAfresh}
use Rattle.pami_state.specs.declared.state.State.{State}

-- its basis is solved afresh, there is a weight for each place, and no pivot is counted
pub record IsStarted (form : Form) (st : State) : Type 0 where
  pub basis : IsBasis (form_of form) (basis_of st)
  pub solved : IsSolvedAfresh (form_of form) st
  pub weights : length st.weights ≡ length st.head
  pub range : AreWeights st.weights
  pub pivots : st.pivots ≡ 0
