use Rattle.pami_script.proofs.Scripts.{each_first}
use Rattle.pami_script.proofs.script_laws.first_refusal_stops.Goals as goal

pub returns : goal.returns
returns c = record {
  first = each_first;
}
