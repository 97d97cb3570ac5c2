use Rattle.pami_method.proofs.Values.{flips_value}
use Rattle.pami_method.proofs.Flips.{step_changes, step_value}
use Rattle.pami_method.proofs.script_laws.a_step_has_its_length.Goals as goal

pub returns : goal.returns
returns c = record { flips = flips_value; ascending = step_changes; length = step_value }
