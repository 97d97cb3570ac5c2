use Rattle.std.proofs.Common.{◌≤◌, ◌+◌}
use Rattle.pami_form.specs.FormOf.{form_of}
use Rattle.pami_batch.specs.Factors.{IsFactorOf}
use Rattle.pami_batch.specs.FinishedBatch.{FinishedBatch, HasSteps}
use Rattle.pami_batch.proofs.ColumnTasks.{ColumnsTo}
use Rattle.pami_batch.proofs.collecting.solve_columns.Given as goal

abbrev pub invariant-loop-k : goal.invariant-loop-k
invariant-loop-k g l =
    ((b : FinishedBatch) → HasSteps (form_of l.form) l.steps b → IsFactorOf (form_of l.form) b.history b.first.basis l.factor
    → ColumnsTo (form_of l.form) b l.k l.columns.items)
    × (l.counter.count ≤ l.fn.counter.count + l.k)
