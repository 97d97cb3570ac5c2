use Rattle.pami_deferral.proofs.KeptTurns.{turn_is}
use Rattle.pami_deferral.proofs.inside_laws.kept_turns_are_the_batch_s.Goals as goal

pub returns : goal.returns
returns c = record { turn = turn_is }
