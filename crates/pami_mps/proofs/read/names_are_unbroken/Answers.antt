use Rattle.pami_mps.proofs.ModelNames.{names_are_unbroken}
use Rattle.pami_mps.proofs.read.names_are_unbroken.Goals as goal

pub returns : goal.returns
returns c = names_are_unbroken
