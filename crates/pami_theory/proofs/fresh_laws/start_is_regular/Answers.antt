use Rattle.pami_theory.proofs.Solved.{start_regular}
use Rattle.pami_theory.proofs.fresh_laws.start_is_regular.Goals as goal

pub returns : goal.returns
returns c = record { regular = start_regular }
