use Rattle.pami_lp.proofs.Entered.{entered}
use Rattle.pami_lp.proofs.laws.entries_are_sums.Goals as goal

pub returns : goal.returns
returns c = entered
