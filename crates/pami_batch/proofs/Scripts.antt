-- The calls of a turn against the scripts of their tasks.
use Rattle.std.proofs.Common.{◌≡◌, ℕ, ◌<◌, inl, inr, List, [], ◌∷◌, length, Option, None, Some, Result, Ok, Err, refl, sym, ap, ◌∙◌, subst, arith}
use Rattle.std.specs.Global.{Vec}
use Rattle.std.specs.Result.{IfOk}
use Rattle.pami_algebra.specs.Fraction.{Fraction}
use Rattle.pami_linear.specs.Sums.{unit}
use Rattle.pami_frac.specs.Answers.{FollowsBy}
use Rattle.pami_frac.specs.declared.arithmetic.Refused.{Refused}
use Rattle.pami_frac.specs.declared.fault.Fault.{Fault}
use Rattle.pami_frac.specs.declared.fault.Fault.TheVariants as faults
use Rattle.pami_frac.specs.declared.fault.OutOfMemory.{OutOfMemory}
use Rattle.pami_frac.specs.declared.list.Entry.{Entry}
use Rattle.pami_script.specs.Script.{then}
use Rattle.pami_linear.proofs.Lists.{same_list}
use Rattle.pami_factoring.specs.declared.kept.Kept.{Kept}
use Rattle.pami_factoring.specs.Solve.{backward_script}
use Rattle.pami_factoring.proofs.Programs.{step_count}
use Rattle.pami_factor.specs.Units.{unit_list}
use Rattle.pami_factor.specs.Value.{Product}
use Rattle.pami_factor.proofs.Answered.{unit_length, unit_members}
use Rattle.pami_theory.specs.Form.{Form, zero_f}
use Rattle.pami_theory.specs.Basis.{Basis}
use Rattle.pami_theory.specs.Fresh.{Fresh, IsFresh, row_at}
use Rattle.pami_theory.specs.Ratio.{row_entry}
use Rattle.pami_theory.specs.Step as theory
use Rattle.pami_theory.specs.Step.{step_at, theta}
use Rattle.pami_theory.specs.Choice.{InfeasibleRow}
use Rattle.pami_theory.proofs.Tables.{tabled_length, tabled_at}
use Rattle.pami_method.specs.declared.words.Spot.{Spot}
use Rattle.pami_method.specs.declared.words.Spot.TheVariants as spots
use Rattle.pami_method.specs.Task.{refusal}
use Rattle.pami_method.specs.Factor.{History, refusal_by, head_matrix}
use Rattle.pami_method.specs.Scripts.{price_script, reach_script, shift_script, nonbasic_in}
use Rattle.pami_method.specs.Batch as batch
use Rattle.pami_method.specs.Batch.{Reached}
use Rattle.pami_method.specs.Work.{unit_at, backward_task, leaving_of, row_task, refused_or, first_refused}
use Rattle.pami_deferral.proofs.Histories.{matrix_length, matrix_square, row_solved}
use Rattle.pami_price.specs.Agreement.{entries_at, nonzero_entries}
use Rattle.pami_bfrt.specs.declared.walk.Walk.{Walk}
use Rattle.pami_vec.specs.declared.step.Step.{Step}
use Rattle.pami_minor.specs.declared.row.Reached as program
use Rattle.pami_minor.specs.declared.row.RowPick.{RowPick}
use Rattle.pami_minor.specs.declared.row.RowPick.TheVariants as picks
use Rattle.pami_minor.specs.declared.minor.Minor.{Minor}
use Rattle.pami_minor.specs.Behind.{IsReachedRow, FollowsReach}
use Rattle.pami_minor.specs.Follow.{FollowsPick}
use Rattle.pami_minor.specs.Shifts.{AreCosts, FollowsShift}
use Rattle.pami_minor.specs.Steps.{StepFits, FollowsWalk, FollowsRatio}
use Rattle.pami_batch.specs.Factors.{IsFactorOf}
use Rattle.pami_batch.specs.Told.{fault_at, IsSpotBehind, Tells, step_tasks, walk_tasks, spot_by, walk_spot}
use Rattle.pami_batch.proofs.Told.{IsAnswered, followed}

-- ---- a solve
pub factor_steps : (f : Form) (h : History) (b : Basis) (factor : Product) → IsFactorOf f h b factor → length factor.steps ≡ f.rows
factor_steps f h b factor is =
    step_count (head_matrix f h.head) factor.steps (matrix_square f h.head is.stands.places) is.steps ∙ matrix_length f h.head

unit_is : (f : Form) (p : ℕ) → p < f.rows → unit_list f.rows p ≡ unit_at f p
unit_is f p l =
    let n = unit_length f.rows p in
    same_list (unit_list f.rows p) (unit_at f p) (n ∙ sym (tabled_length f.rows (unit p)))
    (λ i k. unit_members f.rows p i l (omega (arith, k, n)) ∙ sym (tabled_at f.rows (unit p) i zero_f (omega (arith, k, n))))

pub solved : (f : Form) (h : History) (b : Basis) (s : Fresh) (factor : Product) (p : ℕ) (answer : Result (List Fraction) (Fault Refused))
    → IsFactorOf f h b factor → IsFresh f b s → p < f.rows
    → FollowsBy (λ v. v) (backward_script factor.steps factor.pivots (unit_list (length factor.steps) p)) answer
    → IsAnswered (λ rho. rho ≡ row_at s p) (backward_task f h p).refusal answer
solved f h b s factor p answer is fresh l e =
    let same : backward_script factor.steps factor.pivots (unit_list (length factor.steps) p) ≡ backward_script factor.steps h.pivots (unit_at f p) =
    ap (λ qs. backward_script factor.steps qs (unit_list (length factor.steps) p)) is.pivots
    ∙ ap (λ n. backward_script factor.steps h.pivots (unit_list n p)) (factor_steps f h b factor is)
    ∙ ap (backward_script factor.steps h.pivots) (unit_is f p l) in
    subst (λ (x : Option Refused). IsAnswered (λ rho. rho ≡ row_at s p) x answer)
    (sym (ap (λ x. refusal_by x (λ (steps : List Kept). backward_script steps h.pivots (unit_at f p))) is.steps))
    (followed (λ v. v) (λ rho. rho ≡ row_at s p) (backward_script factor.steps h.pivots (unit_at f p)) answer
    (λ rho k. row_solved f h b s factor.steps p rho is.stands fresh is.steps l k)
    (subst (λ (o : Result (List Fraction) Refused). FollowsBy (λ v. v) o answer) same e))

-- ---- a slice
then_refused : {A B : Type 0} (o : Result A Refused) (g : A → B) → refusal (then o (λ x. Ok (g x))) ≡ refusal o
then_refused (Ok x) g = refl
then_refused (Err d) g = refl

pub priced : (f : Form) (r : Reached) (row : InfeasibleRow) (slice : ℕ) (script : Result (List Entry) Refused) (answer : Result (Vec Entry) (Fault Refused))
    → script ≡ then (price_script f r.basis (row_at r.fresh row.place) slice) (λ alphas. Ok (entries_at (nonbasic_in f r.basis slice) alphas))
    → ((es : List Entry) → script ≡ Ok es → es ≡ nonzero_entries (row_entry f (row_at r.fresh row.place)) (nonbasic_in f r.basis slice))
    → FollowsBy (λ (es : Vec Entry). es.items) script answer
    → IsAnswered (λ (es : Vec Entry). es.items ≡ nonzero_entries (row_entry f (row_at r.fresh row.place)) (nonbasic_in f r.basis slice))
    (refusal (price_script f r.basis (row_at r.fresh row.place) slice)) answer
priced f r row slice script answer same value e =
    subst (λ (x : Option Refused). IsAnswered (λ (es : Vec Entry). es.items ≡ nonzero_entries (row_entry f (row_at r.fresh row.place)) (nonbasic_in f r.basis slice)) x answer)
    (ap refusal same ∙ then_refused (price_script f r.basis (row_at r.fresh row.place) slice) (entries_at (nonbasic_in f r.basis slice)))
    (followed (λ (es : Vec Entry). es.items) (λ (es : Vec Entry). es.items ≡ nonzero_entries (row_entry f (row_at r.fresh row.place)) (nonbasic_in f r.basis slice))
    script answer (λ es k. value es.items k) e)

-- ---- a walk
spot_is : (f : Form) (number : ℕ) (r : Reached) (row : InfeasibleRow) (answer : Result Walk (Fault Refused)) (spot : Spot)
    → FollowsRatio f r.basis r.fresh row.place row.violation answer → IsSpotBehind number answer spot → spot ≡ walk_spot f number r row
spot_is f number r row (Ok walk) spot h k = k ∙ ap (spot_by number) (sym h.1)
spot_is f number r row (Err (faults.Named d)) spot h k = k ∙ ap (λ o. spot_by number (refusal o)) (sym h)
spot_is f number r row (Err faults.OutOfMemory) spot h k = absurd k

pub spot_of_walk : (f : Form) (number : ℕ) (r : Reached) (row : InfeasibleRow) (answer : Result Walk (Fault Refused)) (result : Result Spot OutOfMemory)
    → FollowsRatio f r.basis r.fresh row.place row.violation answer → IfOk result (IsSpotBehind number answer)
    → IfOk result (λ spot. spot ≡ walk_spot f number r row)
spot_of_walk f number r row answer (Ok spot) h k = spot_is f number r row answer spot h k
spot_of_walk f number r row answer (Err e) h k = tt

step_fits : (f : Form) (number : ℕ) (r : Reached) (o : Option theory.Step) → StepFits f r.basis r.fresh o → first_refused (step_tasks f number r o) ≡ None
step_fits f number r None h = refl
step_fits f number r (Some t) h = ap (λ x. refused_or x (spots.Step number) None) h

pub walk_fits : (f : Form) (number : ℕ) (r : Reached) (row : InfeasibleRow) (answer : Walk × Option Step)
    → FollowsWalk f r.basis r.fresh row.place row.violation (Ok answer) → first_refused (walk_tasks f number r row) ≡ None
walk_fits f number r row answer h =
    ap (λ x. refused_or x (spots.Ratio number) (first_refused (step_tasks f number r (step_at f r.basis r.fresh row.place row.violation)))) h.2
    ∙ step_fits f number r (step_at f r.basis r.fresh row.place row.violation) h.3

pub walk_told : (f : Form) (number : ℕ) (r : Reached) (row : InfeasibleRow) (spot : Spot) (fault : Fault Refused)
    → spot ≡ walk_spot f number r row → FollowsWalk f r.basis r.fresh row.place row.violation (Err fault)
    → Tells (λ answer. FollowsWalk f r.basis r.fresh row.place row.violation (Ok answer)) (walk_tasks f number r row) (Err (fault_at spot fault))
walk_told f number r row spot (faults.Named d) e (inl h) =
    ap (λ x. refused_or x (spots.Ratio number) (first_refused (step_tasks f number r (step_at f r.basis r.fresh row.place row.violation)))) (ap refusal h)
    ∙ ap (λ s. Some (record { task = s; refused = d })) (sym (e ∙ ap (λ o. spot_by number (refusal o)) h))
walk_told f number r row spot (faults.Named d) e (inr h) =
    ap (λ x. refused_or x (spots.Ratio number) (first_refused (step_tasks f number r (step_at f r.basis r.fresh row.place row.violation)))) (ap refusal h.2)
    ∙ ap (λ o. first_refused (step_tasks f number r o)) h.3
    ∙ ap (λ x. refused_or x (spots.Step number) None) (ap refusal h.4)
    ∙ ap (λ s. Some (record { task = s; refused = d })) (sym (e ∙ ap (λ o. spot_by number (refusal o)) h.2))
walk_told f number r row spot faults.OutOfMemory e h = tt

-- ---- behind a step
pub reached_answer : (f : Form) (m : batch.Minor) (next : Reached) (place : ℕ) (answer : Result program.Reached (Fault Refused)) → FollowsReach f m next place answer
    → IsAnswered (IsReachedRow next place)
    (refusal (reach_script f m.reached.basis m.reached.fresh m.step (theta f m.reached.basis m.reached.fresh m.step) place)) answer
reached_answer f m next place (Ok reached) h = (h.1, h.0)
reached_answer f m next place (Err (faults.Named d)) h = ap refusal h
reached_answer f m next place (Err faults.OutOfMemory) h = tt

pub shifted_answer : (f : Form) (m : batch.Minor) (next : Reached) (slice : ℕ) (answer : Result (Vec Entry) (Fault Refused)) → FollowsShift f m next slice answer
    → IsAnswered (λ (es : Vec Entry). AreCosts f m next slice es.items)
    (refusal (shift_script f m.reached.basis (leaving_of m.reached m.row) m.step slice)) answer
shifted_answer f m next slice (Ok es) h = (h.1, h.0)
shifted_answer f m next slice (Err (faults.Named d)) h = ap refusal h
shifted_answer f m next slice (Err faults.OutOfMemory) h = tt

-- ---- the look at the rows
pub pick_fits : (f : Form) (limit number : ℕ) (r : Reached) (minor : Minor) (pick : RowPick) → FollowsPick f limit r minor (Ok pick)
    → first_refused (row_task f limit number r ∷ []) ≡ None
pick_fits f limit number r minor (picks.Row place violation) h = ap (λ x. refused_or x (spots.Row number) None) h.5
pick_fits f limit number r minor picks.Stop h = ap (λ x. refused_or x (spots.Row number) None) h.2
