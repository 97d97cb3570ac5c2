-- A batch whose minor iterations are done, as the collective update finds it.
use Rattle.std.specs.Prelude.{◌≡◌, ℕ, ◌<◌, ◌≤◌, ◌^◌, List, map}
use Rattle.pami_algebra.specs.Fraction.{Fraction}
use Rattle.pami_theory.specs.Form as theory
use Rattle.pami_theory.specs.Fresh.{column_at}
use Rattle.pami_method.specs.Factor.{History}
use Rattle.pami_method.specs.Batch.{Reached, Minor}
use Rattle.pami_deferral.specs.SolvedBatch.{IsSolvedBatch}
use Rattle.pami_vec.specs.declared.step.Step.{Step}
use Rattle.pami_state.specs.State.{basis_of}
use Rattle.pami_state.specs.declared.state.State.{State}
use Rattle.pami_form.specs.declared.form.Form.{Form}
use Rattle.pami_form.specs.FormOf.{form_of}
use Rattle.pami_factor.specs.Value.{Product}
use Rattle.pami_minor.specs.Steps.{AreStepsOf}
use Rattle.pami_minor.specs.Follow.{IsStopped}
use Rattle.pami_minor.specs.declared.minor.Minor as program
use Rattle.pami_batch.specs.Factors.{IsFactorOf}

-- the batch, and the history of the factor at its first basis
pub record FinishedBatch : Type 0 where
  pub history : History
  pub limit : ℕ
  pub first : Reached
  pub minors : List Minor
  pub last : Reached

-- it begins at a basis that is solved afresh, has these steps, and its pivots are counted within the limit
pub record HasSteps (f : theory.Form) (steps : List Step) (b : FinishedBatch) : Type 0 where
  pub solved : IsSolvedBatch f b.limit b.first b.minors b.last
  pub steps_are : AreStepsOf f b.minors steps
  pub most : b.first.count ≤ b.limit
  pub few : b.limit < 2 ^ 32

-- the column of a minor's entering variable by the first basis
abbrev pub first_column : FinishedBatch → Minor → List Fraction
first_column b m = column_at b.first.fresh m.step.entering

abbrev pub first_columns : FinishedBatch → List (List Fraction)
first_columns b = map (first_column b) b.minors

-- it begins at the state
pub record BeginsAt (st : State) (b : FinishedBatch) : Type 0 where
  pub basis : b.first.basis ≡ basis_of st
  pub weights : b.first.weights ≡ st.weights
  pub count : b.first.count ≡ st.pivots

-- the minor has finished it, by the factor of its first basis
pub record IsFinished (form : Form) (st : State) (factor : Product) (minor : program.Minor) (b : FinishedBatch) : Type 0 where
  pub begins : BeginsAt st b
  pub factored : IsFactorOf (form_of form) b.history b.first.basis factor
  pub steps : HasSteps (form_of form) minor.steps.items b
  pub stopped : IsStopped (form_of form) b.limit b.last minor
