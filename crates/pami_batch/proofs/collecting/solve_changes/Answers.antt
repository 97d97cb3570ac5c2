use Rattle.std.proofs.Common.{sym, length}
use Rattle.std.proofs.lemmas.Bool.{eqb-true}
use Rattle.pami_batch.proofs.FlipTasks.{idle_answer}
use Rattle.pami_batch.proofs.collecting.solve_changes.Goals as goal

pub returns-then-is_empty-clause-script : goal.returns-then-is_empty-clause-script
returns-then-is_empty-clause-script g c =
    idle_answer c.args.factor.now.steps c.args.factor.now.pivots c.args.changes.now c.in_ok-from_entries.field-0 c.entries.result.now c.len-length.result
    c.entries.ensures (eqb-true (length c.entries.result.now) 0 (sym c.if-is_empty.ensures)) c.len-length.ensures c.in_ok-from_entries.ensures
