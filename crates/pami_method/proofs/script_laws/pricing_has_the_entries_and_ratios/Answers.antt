use Rattle.pami_method.proofs.Values.{price_value, ratios_value}
use Rattle.pami_method.proofs.script_laws.pricing_has_the_entries_and_ratios.Goals as goal

pub returns : goal.returns
returns c = record { entries = price_value; ratios = ratios_value }
