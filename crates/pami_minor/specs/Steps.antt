-- The step of a row that leaves, at a basis of a form that is solved afresh.
use Rattle.std.specs.Prelude.{◌≡◌, ℕ, ◌<◌, ◌⊎◌, List, [], ◌∷◌, ◌++◌, length, Option, None, Some, Result, Ok, Err}
use Rattle.pami_algebra.specs.Fraction.{Fraction}
use Rattle.pami_linear.specs.Lists.{get}
use Rattle.pami_frac.specs.declared.arithmetic.Refused.{Refused}
use Rattle.pami_frac.specs.declared.fault.Fault.{Fault}
use Rattle.pami_frac.specs.declared.fault.Fault.TheVariants as faults
use Rattle.pami_frac.specs.declared.list.Entry.{Entry}
use Rattle.pami_theory.specs.Form as theory
use Rattle.pami_theory.specs.Form.{limits}
use Rattle.pami_theory.specs.Basis.{Basis, IsBasis, head_at}
use Rattle.pami_theory.specs.Fresh.{Fresh, IsFresh, row_at, value_at_place}
use Rattle.pami_theory.specs.declared.words.Stand.{Stand}
use Rattle.pami_theory.specs.declared.words.Violation.{Violation}
use Rattle.pami_theory.specs.Violation.{passed_bound}
use Rattle.pami_theory.specs.Ratio.{row_entry, ratio_walk}
use Rattle.pami_theory.specs.Step as theory_step
use Rattle.pami_theory.specs.Step.{leaving_at, step_at, flips_change, theta}
use Rattle.pami_method.specs.Task.{refusal}
use Rattle.pami_method.specs.Scripts.{ratio_script, step_script}
use Rattle.pami_method.specs.Batch.{Minor}
use Rattle.pami_price.specs.Agreement.{nonzero_entries, all_nonbasic}
use Rattle.pami_vec.specs.declared.step.Step.{Step}
use Rattle.pami_bfrt.specs.declared.walk.Walk.{Walk}
use Rattle.pami_bfrt.specs.Walks.{found_by}
use Rattle.pami_minor.specs.declared.walk.Leaving.{Leaving}

-- the step of a program is the one that the basis takes
pub record IsStepOf (f : theory.Form) (b : Basis) (s : Fresh) (t : theory_step.Step) (step : Step) : Type 0 where
  pub place : step.place ≡ t.place
  pub leaving : step.leaving ≡ t.leaving
  pub entering : step.entering ≡ t.entering
  pub tau : step.tau ≡ t.tau
  pub theta_is : step.theta ≡ theta f b s t
  pub bound : step.bound ≡ passed_bound (limits f t.leaving) t.side
  pub old_value : step.old_value ≡ get s.values t.entering
  pub flips_by_row : length step.flip_column ≡ f.rows
  pub flips : (i : ℕ) → i < f.rows → get step.flip_column i ≡ flips_change f b t.flips i

-- what a walk is given is what is solved at the basis, where the row of this place leaves
pub record AreWalked (f : theory.Form) (b : Basis) (s : Fresh) (stands : List Stand) (reduced : List Fraction) (alpha : List Entry)
    (rho : List Fraction) (row : Leaving) : Type 0 where
  pub basis : IsBasis f b
  pub fresh : IsFresh f b s
  pub place : row.place < f.rows
  pub variable : row.variable ≡ head_at b row.place
  pub value : row.value ≡ value_at_place b s row.place
  pub stands_are : stands ≡ b.stands
  pub reduced_are : reduced ≡ s.reduced
  pub rho_is : rho ≡ row_at s row.place
  pub alpha_is : alpha ≡ nonzero_entries (row_entry f (row_at s row.place)) (all_nonbasic f b)

-- the step that a walk answers
abbrev pub IsStepFor : theory.Form → Basis → Fresh → Option theory_step.Step → Option Step → Type 0
IsStepFor f b s None step = step ≡ None
IsStepFor f b s (Some t) None = ⊥
IsStepFor f b s (Some t) (Some step) = IsStepOf f b s t step

-- the operations of a step fit, where there is one
abbrev pub StepFits : theory.Form → Basis → Fresh → Option theory_step.Step → Type 0
StepFits f b s None = Unit {0}
StepFits f b s (Some t) = refusal (step_script f b s t) ≡ None

-- the walk and its step; else the first operation that doesn't fit, of the walk or behind it of the step
abbrev pub FollowsWalk : theory.Form → Basis → Fresh → ℕ → Violation → Result (Walk × Option Step) (Fault Refused) → Type 0
FollowsWalk f b s place violation (Ok answer) =
    (found_by answer.0 ≡ ratio_walk f b (leaving_at s place violation)) × IsStepFor f b s (step_at f b s place violation) answer.1
    × (refusal (ratio_script f b (leaving_at s place violation)) ≡ None) × StepFits f b s (step_at f b s place violation)
FollowsWalk f b s place violation (Err (faults.Named refused)) =
    (ratio_script f b (leaving_at s place violation) ≡ Err refused)
    ⊎ ((slope : Fraction) × (t : theory_step.Step) × (ratio_script f b (leaving_at s place violation) ≡ Ok slope)
    × (step_at f b s place violation ≡ Some t) × (step_script f b s t ≡ Err refused))
FollowsWalk f b s place violation (Err faults.OutOfMemory) = Unit {0}

-- the walk alone; else its first operation that doesn't fit
abbrev pub FollowsRatio : theory.Form → Basis → Fresh → ℕ → Violation → Result Walk (Fault Refused) → Type 0
FollowsRatio f b s place violation (Ok walk) =
    (found_by walk ≡ ratio_walk f b (leaving_at s place violation)) × (refusal (ratio_script f b (leaving_at s place violation)) ≡ None)
FollowsRatio f b s place violation (Err (faults.Named refused)) = ratio_script f b (leaving_at s place violation) ≡ Err refused
FollowsRatio f b s place violation (Err faults.OutOfMemory) = Unit {0}

-- the steps with the one of a walk, if it has one
abbrev pub noted : Option Step → List Step → List Step
noted None steps = steps
noted (Some step) steps = steps ++ step ∷ []

-- member by member the steps of a program are those of these minors
abbrev pub AreStepsOf : theory.Form → List Minor → List Step → Type 0
AreStepsOf f [] [] = Unit {0}
AreStepsOf f (m ∷ ms) (step ∷ steps) = IsStepOf f m.reached.basis m.reached.fresh m.step step × AreStepsOf f ms steps
AreStepsOf f [] (step ∷ steps) = ⊥
AreStepsOf f (m ∷ ms) [] = ⊥
