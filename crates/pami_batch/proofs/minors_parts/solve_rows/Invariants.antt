use Rattle.std.proofs.Common.{◌≡◌, ◌+◌, ◌≤◌, ℕ, map}
use Rattle.pami_theory.specs.Form.{Form}
use Rattle.pami_method.specs.Factor.{History}
use Rattle.pami_method.specs.Batch.{Reached, places}
use Rattle.pami_method.specs.Work.{backward_task}
use Rattle.pami_chuzr.specs.Choice.{chosen_row}
use Rattle.pami_minor.specs.Opening.{IsOpening}
use Rattle.pami_batch.specs.Factors.{IsFactorOf}
use Rattle.pami_batch.proofs.Refusals.{RestDecides}
use Rattle.pami_batch.proofs.minors_parts.solve_rows.Given as goal

abbrev pub invariant-loop-row : goal.invariant-loop-row
invariant-loop-row g l =
    ((f : Form) (limit : ℕ) (r : Reached) (h : History) → IsOpening f limit r 0 l.fn.minor → IsFactorOf f h r.basis l.factor
    → l.chosen ≡ map chosen_row r.rows → IsOpening f limit r l.row-index l.minor × RestDecides (backward_task f h) (places r.rows) l.row-index)
    × (l.minor.steps.items ≡ l.fn.minor.steps.items)
    × (l.steps.count ≤ l.fn.steps.count + l.row-index)
