use Rattle.pami_deferral.proofs.WalkHistories.{start_factored, switch_has_factor, phases_factored}
use Rattle.pami_deferral.proofs.walk_laws.factors_stand_along_runs.Goals as goal

pub returns : goal.returns
returns c = record { start = start_factored; switch = switch_has_factor; phases = phases_factored }
