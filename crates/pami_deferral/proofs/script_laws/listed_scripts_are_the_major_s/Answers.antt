use Rattle.pami_deferral.proofs.ListScripts.{total_is, exchanges_are, collect_is}
use Rattle.pami_deferral.proofs.script_laws.listed_scripts_are_the_major_s.Goals as goal

pub returns : goal.returns
returns c = record { flips = total_is; exchanges = exchanges_are; values = collect_is }
