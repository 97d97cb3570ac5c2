use Rattle.pami_method.proofs.Values.{violation_value, choose_value, row_value}
use Rattle.pami_method.proofs.script_laws.choice_has_the_violations.Goals as goal

pub returns : goal.returns
returns c = record { one = violation_value; all = choose_value; some = row_value }
