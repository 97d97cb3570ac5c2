use Rattle.pami_theory.proofs.NextValues.{place_value_other, place_value_entering}
use Rattle.pami_theory.proofs.update_laws.values_by_place_behind_a_step.Goals as goal

pub returns : goal.returns
returns c = record { other = place_value_other; entering = place_value_entering }
