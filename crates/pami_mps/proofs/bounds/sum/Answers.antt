use Rattle.pami_frac.proofs.Outcomes.{add_value}
use Rattle.std.proofs.Common.{sym}
use Rattle.pami_mps.proofs.bounds.sum.Goals as goal

pub returns-in-Ok-clause-value : goal.returns-in-Ok-clause-value
returns-in-Ok-clause-value c = add_value c.args.left c.args.right c.in-Ok.value (sym c.in-Ok.ensures)
