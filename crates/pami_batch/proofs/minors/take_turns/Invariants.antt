use Rattle.std.proofs.Common.{◌≡◌, ℕ, List, map, length, None}
use Rattle.pami_method.specs.Factor.{History}
use Rattle.pami_method.specs.Batch.{Reached, Minor, places}
use Rattle.pami_method.specs.Work.{backward_task, first_refused}
use Rattle.pami_form.specs.FormOf.{form_of}
use Rattle.pami_minor.specs.Fresh.{IsFreshMinor}
use Rattle.pami_batch.proofs.Running.{IsRunning}
use Rattle.pami_batch.proofs.minors.take_turns.Given as goal

abbrev pub invariant-loop-moves : goal.invariant-loop-moves
invariant-loop-moves l =
    (limit : ℕ) (h : History) (first : Reached) → IsFreshMinor (form_of l.form) limit first l.fn.minor
    → first_refused (map (backward_task (form_of l.form) h) (places first.rows)) ≡ None
    → (es : List Minor) × (now : Reached) × IsRunning (form_of l.form) limit h first es now l.taken l.minor l.moves.items

abbrev pub decreases-loop-moves : goal.decreases-loop-moves
decreases-loop-moves l = length l.minor.rows.items
