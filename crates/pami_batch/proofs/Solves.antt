-- How often a batch solves, by what it comes to.
use Rattle.std.proofs.Common.{◌≡◌, ℕ, ◌+◌, ◌*◌, ◌≤◌, List, map, length, Result, Ok, Err, sym, ap, ◌∙◌, subst, arith}
use Rattle.std.specs.Result.{IfOk}
use Rattle.std.proofs.lemmas.List.{length-map}
use Rattle.pami_frac.specs.declared.fault.Fault.{Fault}
use Rattle.pami_frac.specs.declared.fault.Fault.TheVariants as faults
use Rattle.pami_frac.specs.declared.fault.OutOfMemory.{OutOfMemory}
use Rattle.pami_theory.specs.Form.{Form}
use Rattle.pami_method.specs.declared.words.Place.{Place}
use Rattle.pami_method.specs.Batch.{Minor}
use Rattle.pami_method.specs.Work.{pivot_of}
use Rattle.pami_vec.specs.Pivots.{column_pivot, column_pivots}
use Rattle.pami_vec.specs.declared.step.Pivot.{Pivot}
use Rattle.pami_vec.specs.declared.step.Step.{Step}
use Rattle.pami_minor.specs.Steps.{AreStepsOf}
use Rattle.pami_batch.specs.declared.outcome.Outcome.{Outcome}
use Rattle.pami_batch.specs.declared.outcome.Outcome.TheVariants.{Collected, NoEntering, Refused}
use Rattle.pami_batch.specs.Minors.{IsRefusal}
use Rattle.pami_batch.specs.Solves.{most_solves, HasPivots}
use Rattle.pami_batch.proofs.BatchSteps.{as_many}

-- ---- what was collected
-- a pivot for each step
pub as_many_pivots : (f : Form) (ms : List Minor) (steps : List Step) (pivots : List Pivot) → AreStepsOf f ms steps → column_pivots pivots ≡ map pivot_of ms
    → length pivots ≡ length steps
as_many_pivots f ms steps pivots are made =
    let taken : length pivots ≡ length ms = sym (length-map pivots column_pivot) ∙ ap length made ∙ length-map ms pivot_of in
    let many = as_many f ms steps are in
    omega (arith, taken, many)

-- a refusal has none
pub refusal_pivots : (n : ℕ) (fault : Fault Place) (answer : Result Outcome OutOfMemory) → IfOk answer (IsRefusal fault) → IfOk answer (HasPivots n)
refusal_pivots n (faults.Named place) (Ok outcome) is = subst (HasPivots n) (sym is) tt
refusal_pivots n faults.OutOfMemory (Ok outcome) is = absurd is
refusal_pivots n fault (Err e) is = tt

-- ---- the solves
-- of a batch that has stopped with so many pivots
pub stopped_solves : (a b c rows n : ℕ) (answer : Result Outcome OutOfMemory) → b ≤ a + rows → c ≤ b + (n + 1) → n ≤ rows
    → IfOk answer (HasPivots n) → c ≤ a + most_solves rows answer
stopped_solves a b c rows n (Ok (Collected state pivots moves)) inside behind few many = omega (arith, inside, behind, few, many)
stopped_solves a b c rows n (Ok (NoEntering rho moves)) inside behind few many = absurd many
stopped_solves a b c rows n (Ok (Refused place)) inside behind few many = omega (arith, inside, behind, few)
stopped_solves a b c rows n (Err e) inside behind few many = omega (arith, inside, behind, few)

-- of one that is refused before
pub refused_solves : (a c rows : ℕ) (fault : Fault Place) (answer : Result Outcome OutOfMemory) → c ≤ a + rows → IfOk answer (IsRefusal fault)
    → c ≤ a + most_solves rows answer
refused_solves a c rows (faults.Named place) (Ok outcome) inside is =
    let most : c ≤ a + most_solves rows (Ok (Refused place)) = omega (arith, inside) in
    subst (λ (o : Outcome). c ≤ a + most_solves rows (Ok o)) (sym is) most
refused_solves a c rows faults.OutOfMemory (Ok outcome) inside is = absurd is
refused_solves a c rows fault (Err e) inside is = omega (arith, inside)
