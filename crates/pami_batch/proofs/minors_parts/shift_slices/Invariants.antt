use Rattle.std.proofs.Common.{◌≡◌, ℕ}
use Rattle.pami_method.specs.Batch.{Reached, Minor}
use Rattle.pami_method.specs.Work.{slices}
use Rattle.pami_form.specs.FormOf.{form_of}
use Rattle.pami_minor.specs.Fresh.{IsStepping}
use Rattle.pami_batch.specs.Told.{shift_task}
use Rattle.pami_batch.proofs.Refusals.{RestDecides}
use Rattle.pami_batch.proofs.minors_parts.shift_slices.Given as goal

abbrev pub invariant-loop-slice : goal.invariant-loop-slice
invariant-loop-slice l =
    ((limit : ℕ) (m : Minor) (next : Reached) (i : ℕ) → IsStepping (form_of l.form) limit m next i 0 l.fn.minor
    → IsStepping (form_of l.form) limit m next i l.slice l.minor × RestDecides (shift_task (form_of l.form) l.number m) (slices (form_of l.form)) l.slice)
    × (l.minor.steps.items ≡ l.fn.minor.steps.items)
