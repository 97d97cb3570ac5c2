-- The reduced costs of a slice behind a step, at the basis that the batch reaches there.
use Rattle.std.specs.Prelude.{◌≡◌, ℕ, Bool, false, not, List, None, Result, Ok, Err, cond, nat_eq}
use Rattle.std.specs.Global.{Vec}
use Rattle.pami_linear.specs.Lists.{get}
use Rattle.pami_frac.specs.declared.arithmetic.Refused.{Refused}
use Rattle.pami_frac.specs.declared.fault.Fault.{Fault}
use Rattle.pami_frac.specs.declared.fault.Fault.TheVariants as faults
use Rattle.pami_frac.specs.declared.list.Entry.{Entry}
use Rattle.pami_theory.specs.Form.{Form, variables}
use Rattle.pami_theory.specs.Basis.{stand_at}
use Rattle.pami_theory.specs.Fresh.{row_at}
use Rattle.pami_theory.specs.Ratio.{row_entry}
use Rattle.pami_theory.specs.Step.{leaving_at}
use Rattle.pami_theory.specs.declared.words.Side.{Side}
use Rattle.pami_method.specs.Batch as batch
use Rattle.pami_method.specs.Batch.{Reached}
use Rattle.pami_method.specs.Task.{refusal}
use Rattle.pami_method.specs.Scripts.{is_nonbasic, nonbasic_in, slice_variables, shift_script}
use Rattle.pami_price.specs.Agreement.{nonzero_entries}
use Rattle.pami_deferral.specs.SolvedBatch.{IsSolvedPivot}
use Rattle.pami_vec.specs.declared.step.Step.{Step}
use Rattle.pami_minor.specs.Costs.{costs}
use Rattle.pami_minor.specs.Steps.{IsStepOf}

-- the variable was nonbasic before the pivot, and doesn't enter
abbrev pub is_shifted : batch.Minor → ℕ → Bool
is_shifted m v = cond (is_nonbasic (stand_at m.reached.basis v)) (not (nat_eq v m.step.entering)) false

-- the costs of such variables of a slice, as the next basis has them
abbrev pub AreCosts : Form → batch.Minor → Reached → ℕ → List Entry → Type 0
AreCosts f m next slice es = es ≡ costs (is_shifted m) (get next.fresh.reduced) (slice_variables (variables f) slice)

-- what a shift is given is what is solved at the basis before the pivot of the minor m, behind which the batch reaches `next`:
-- one cost for each nonbasic variable of the slice, zeros among them, and the entries of the pivot row there
pub record IsBeforeShift (f : Form) (limit : ℕ) (m : batch.Minor) (next : Reached) (slice : ℕ) (reduced alpha : List Entry) (step : Step)
    (side : Side) : Type 0 where
  pub pivot : IsSolvedPivot f limit m next
  pub step_is : IsStepOf f m.reached.basis m.reached.fresh m.step step
  pub side_is : side ≡ m.row.violation.side
  pub reduced_are : reduced
      ≡ costs (λ v. is_nonbasic (stand_at m.reached.basis v)) (get m.reached.fresh.reduced) (slice_variables (variables f) slice)
  pub alpha_are : alpha ≡ nonzero_entries (row_entry f (row_at m.reached.fresh m.row.place)) (nonbasic_in f m.reached.basis slice)

abbrev pub FollowsShift : Form → batch.Minor → Reached → ℕ → Result (Vec Entry) (Fault Refused) → Type 0
FollowsShift f m next slice (Ok es) =
    AreCosts f m next slice es.items
    × (refusal (shift_script f m.reached.basis (leaving_at m.reached.fresh m.row.place m.row.violation) m.step slice) ≡ None)
FollowsShift f m next slice (Err (faults.Named refused)) =
    shift_script f m.reached.basis (leaving_at m.reached.fresh m.row.place m.row.violation) m.step slice ≡ Err refused
FollowsShift f m next slice (Err faults.OutOfMemory) = Unit {0}
