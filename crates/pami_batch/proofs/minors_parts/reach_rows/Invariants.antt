use Rattle.std.proofs.Common.{◌≡◌, ℕ}
use Rattle.pami_method.specs.Batch.{Reached, Minor, places}
use Rattle.pami_form.specs.FormOf.{form_of}
use Rattle.pami_minor.specs.Fresh.{IsStepping}
use Rattle.pami_batch.specs.Told.{reach_task}
use Rattle.pami_batch.proofs.Refusals.{RestDecides}
use Rattle.pami_batch.proofs.minors_parts.reach_rows.Given as goal

abbrev pub invariant-loop-i : goal.invariant-loop-i
invariant-loop-i l =
    ((limit : ℕ) (m : Minor) (next : Reached) → IsStepping (form_of l.form) limit m next 0 0 l.fn.minor
    → IsStepping (form_of l.form) limit m next l.i 0 l.minor × RestDecides (reach_task (form_of l.form) l.number m) (places next.rows) l.i)
    × (l.minor.steps.items ≡ l.fn.minor.steps.items)
