use Rattle.pami_method.proofs.Values.{reach_value, shift_value}
use Rattle.pami_method.proofs.script_laws.updates_have_their_values.Goals as goal

pub returns : goal.returns
returns c = record { row = reach_value; costs = shift_value }
