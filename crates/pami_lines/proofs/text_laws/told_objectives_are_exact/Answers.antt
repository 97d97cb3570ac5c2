use Rattle.pami_lines.proofs.Objectives.{objective_holds}
use Rattle.pami_lines.proofs.text_laws.told_objectives_are_exact.Goals as goal

pub returns : goal.returns
returns c = record { objective = objective_holds }
