use Rattle.pami_model_form.proofs.Rises.{entries_rise}
use Rattle.pami_model_form.proofs.form_laws.entries_are_by_rising_row.Goals as goal

pub returns : goal.returns
returns c = record { rising = entries_rise }
