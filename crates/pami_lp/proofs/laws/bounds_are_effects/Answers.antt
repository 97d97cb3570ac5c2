use Rattle.pami_lp.proofs.Spanned.{spanned}
use Rattle.pami_lp.proofs.laws.bounds_are_effects.Goals as goal

pub returns : goal.returns
returns c = spanned
