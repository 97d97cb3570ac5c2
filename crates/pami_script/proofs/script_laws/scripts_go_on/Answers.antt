use Rattle.std.proofs.Common.{refl}
use Rattle.pami_script.proofs.Scripts.{then_unit, then_assoc}
use Rattle.pami_script.proofs.script_laws.scripts_go_on.Goals as goal

pub returns : goal.returns
returns c = record {
  value_first = λ p f. refl;
  value_last = then_unit;
  associative = then_assoc;
  stopped = λ e f. refl;
}
