use Rattle.pami_minor.proofs.FreshAgain.{fresh_again}
use Rattle.pami_minor.proofs.minor_laws.stepped_minors_are_fresh.Goals as goal

pub returns : goal.returns
returns c = record { fresh = fresh_again }
