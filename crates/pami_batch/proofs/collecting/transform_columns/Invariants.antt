use Rattle.std.proofs.Common.{◌≡◌}
use Rattle.pami_theory.specs.Form.{Form}
use Rattle.pami_batch.specs.FinishedBatch.{FinishedBatch, HasSteps, first_columns}
use Rattle.pami_batch.proofs.TransformTasks.{PivotsTo}
use Rattle.pami_batch.proofs.collecting.transform_columns.Given as goal

abbrev pub invariant-loop-k : goal.invariant-loop-k
invariant-loop-k l = (f : Form) (b : FinishedBatch) → HasSteps f l.steps b → l.columns ≡ first_columns b → PivotsTo b l.k l.pivots.items
