use Rattle.pami_lp.proofs.Gathered.{gathered}
use Rattle.pami_lp.proofs.laws.files_are_gathered.Goals as goal

pub returns : goal.returns
returns c = gathered
