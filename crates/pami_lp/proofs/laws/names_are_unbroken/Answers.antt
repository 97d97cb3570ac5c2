use Rattle.pami_lp.proofs.ModelNames.{names_are_unbroken}
use Rattle.pami_lp.proofs.laws.names_are_unbroken.Goals as goal

pub returns : goal.returns
returns c = names_are_unbroken
