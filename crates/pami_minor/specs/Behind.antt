-- What is worked out of a row that remains behind a step, at the basis that the batch reaches there.
use Rattle.std.specs.Prelude.{◌≡◌, ℕ, ◌<◌, List, length, None, Result, Ok, Err, slice_index_or}
use Rattle.std.specs.List.{Contains}
use Rattle.pami_algebra.specs.Fraction.{Fraction}
use Rattle.pami_frac.specs.declared.arithmetic.Refused.{Refused}
use Rattle.pami_frac.specs.declared.fault.Fault.{Fault}
use Rattle.pami_frac.specs.declared.fault.Fault.TheVariants as faults
use Rattle.pami_theory.specs.Form.{Form}
use Rattle.pami_theory.specs.Fresh.{row_at, value_at_place}
use Rattle.pami_theory.specs.Ratio.{row_entry}
use Rattle.pami_theory.specs.Step.{theta}
use Rattle.pami_theory.specs.Weights.{weight_at}
use Rattle.pami_theory.specs.Choice.{InfeasibleRow}
use Rattle.pami_method.specs.Batch as batch
use Rattle.pami_method.specs.Batch.{Reached, places}
use Rattle.pami_method.specs.Task.{refusal}
use Rattle.pami_method.specs.Scripts.{reach_script}
use Rattle.pami_deferral.specs.Inside.{IsPlaced}
use Rattle.pami_deferral.specs.SolvedBatch.{IsSolvedPivot}
use Rattle.pami_vec.specs.declared.step.Step.{Step}
use Rattle.pami_minor.specs.Steps.{IsStepOf}
use Rattle.pami_minor.specs.declared.kept.Kept.{Kept}
use Rattle.pami_minor.specs.declared.row.Reached as program

-- the row of this index is at the place
abbrev pub IsRowOf : Reached → ℕ → ℕ → Type 0
IsRowOf next i place = (x : InfeasibleRow) × (i < length next.rows) × (slice_index_or next.rows i x ≡ x) × (x.place ≡ place)

-- value, weight and row of the inverse are those of the basis that is reached
pub record IsReachedRow (next : Reached) (place : ℕ) (reached : program.Reached) : Type 0 where
  pub place_is : reached.place ≡ place
  pub value : reached.value ≡ value_at_place next.basis next.fresh place
  pub weight : reached.weight ≡ weight_at next.weights place
  pub rho : reached.rho ≡ row_at next.fresh place

-- what a reach is given is what is solved at the basis before the pivot of the minor m, behind which the batch reaches `next`,
-- where a row of this place remains
pub record IsBeforeReach (f : Form) (limit : ℕ) (m : batch.Minor) (next : Reached) (step : Step) (alpha_pq : Fraction)
    (rho_p : List Fraction) (weight_p : ℕ) (row : program.Reached) : Type 0 where
  pub placed : IsPlaced f m.reached
  pub pivot : IsSolvedPivot f limit m next
  pub remains : Contains (places next.rows) row.place
  pub step_is : IsStepOf f m.reached.basis m.reached.fresh m.step step
  pub alpha_pq_is : alpha_pq ≡ row_entry f (row_at m.reached.fresh m.step.place) m.step.entering
  pub rho_p_is : rho_p ≡ row_at m.reached.fresh m.step.place
  pub weight_p_is : weight_p ≡ weight_at m.reached.weights m.step.place
  pub row_is : IsReachedRow m.reached row.place row

abbrev pub FollowsReach : Form → batch.Minor → Reached → ℕ → Result program.Reached (Fault Refused) → Type 0
FollowsReach f m next place (Ok reached) =
    IsReachedRow next place reached
    × (refusal (reach_script f m.reached.basis m.reached.fresh m.step (theta f m.reached.basis m.reached.fresh m.step) place) ≡ None)
FollowsReach f m next place (Err (faults.Named refused)) =
    reach_script f m.reached.basis m.reached.fresh m.step (theta f m.reached.basis m.reached.fresh m.step) place ≡ Err refused
FollowsReach f m next place (Err faults.OutOfMemory) = Unit {0}

-- the first row at the place
pub record IsFirstAt (place : ℕ) (rows : List Kept) (i : ℕ) : Type 0 where
  pub within : i < length rows
  pub at : (k : Kept) → (slice_index_or rows i k).at.place ≡ place
  pub before : (j : ℕ) (k : Kept) → j < i → ¬ ((slice_index_or rows j k).at.place ≡ place)
