use Rattle.pami_method.proofs.Values.{start_value}
use Rattle.pami_method.proofs.script_laws.the_start_has_the_sums_of_rows.Goals as goal

pub returns : goal.returns
returns c = record { sums = start_value }
