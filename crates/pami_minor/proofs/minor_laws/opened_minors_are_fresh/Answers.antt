use Rattle.pami_minor.proofs.Opens.{fresh_opened}
use Rattle.pami_minor.proofs.minor_laws.opened_minors_are_fresh.Goals as goal

pub returns : goal.returns
returns c = record { fresh = fresh_opened }
