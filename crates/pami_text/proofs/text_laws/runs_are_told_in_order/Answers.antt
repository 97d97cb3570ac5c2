use Rattle.pami_text.proofs.Parts.{run_parts}
use Rattle.pami_text.proofs.text_laws.runs_are_told_in_order.Goals as goal

pub returns : goal.returns
returns c = record { parts = run_parts }
