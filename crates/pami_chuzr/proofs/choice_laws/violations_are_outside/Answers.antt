use Rattle.pami_chuzr.proofs.Exact.{script_within}
use Rattle.pami_chuzr.proofs.choice_laws.violations_are_outside.Goals as goal

pub returns : goal.returns
returns c = λ l value. script_within l value
