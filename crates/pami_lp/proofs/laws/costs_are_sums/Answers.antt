use Rattle.pami_lp.proofs.Still.{priced}
use Rattle.pami_lp.proofs.laws.costs_are_sums.Goals as goal

pub returns : goal.returns
returns c = priced
