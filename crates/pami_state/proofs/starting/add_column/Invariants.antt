use Rattle.std.proofs.Common.{drop}
use Rattle.pami_state.proofs.Summed.{Adding}
use Rattle.pami_state.proofs.starting.add_column.Given as goal

abbrev pub invariant-loop-entry : goal.invariant-loop-entry
invariant-loop-entry l = Adding l.fn.sums l.entry-items (drop l.entry-index l.entry-items) l.x l.sums
