use Rattle.std.proofs.Common.{◌+◌, ◌∙◌, refl}
use Rattle.pami_state.proofs.Listed.{table_more}
use Rattle.pami_state.proofs.starting.row_variables.Goals as goal

pub loop-row-preserved : goal.loop-row-preserved
loop-row-preserved c = c.in_ok-push.ensures.items ∙ table_more (λ i. c.args.columns + i) c.loop-row.row c.loop-row.head.items (c.args.columns + c.loop-row.row) c.loop-row.invariant refl
