-- The state at the start of a form.
use Rattle.std.specs.Prelude.{◌≡◌, None, replicate}
use Rattle.pami_theory.specs.Form.{Form}
use Rattle.pami_theory.specs.Fresh.{Fresh, IsFresh}
use Rattle.pami_theory.specs.Start.{starting_basis}
use Rattle.pami_method.specs.Phases.{start_refused}
use Rattle.pami_state.specs.declared.state.State.{State}
use Rattle.pami_state.specs.State.{basis_of, IsSolvedAfresh}

-- the state at the start of the form, whose values fit
pub record IsStart (f : Form) (st : State) : Type 0 where
  pub basis : basis_of st ≡ starting_basis f
  pub solved : IsSolvedAfresh f st
  pub weights : st.weights ≡ replicate f.rows 1
  pub pivots : st.pivots ≡ 0
  pub fits : (s : Fresh) → IsFresh f (starting_basis f) s → start_refused f s ≡ None
