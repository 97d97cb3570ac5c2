use Rattle.std.proofs.Common.{◌≡◌, ℕ}
use Rattle.pami_theory.specs.Choice.{InfeasibleRow}
use Rattle.pami_method.specs.Batch.{Reached}
use Rattle.pami_method.specs.Work.{slices}
use Rattle.pami_form.specs.FormOf.{form_of}
use Rattle.pami_minor.specs.Fresh.{IsPricing}
use Rattle.pami_batch.specs.Told.{price_task}
use Rattle.pami_batch.proofs.Refusals.{RestDecides}
use Rattle.pami_batch.proofs.minors_parts.price_row.Given as goal

abbrev pub invariant-loop-slice : goal.invariant-loop-slice
invariant-loop-slice l =
    ((limit : ℕ) (r : Reached) (row : InfeasibleRow) → IsPricing (form_of l.form) limit r row 0 l.fn.minor → row.place ≡ l.place
    → IsPricing (form_of l.form) limit r row l.slice l.minor × RestDecides (price_task (form_of l.form) l.number r row) (slices (form_of l.form)) l.slice)
    × (l.minor.steps.items ≡ l.fn.minor.steps.items)
