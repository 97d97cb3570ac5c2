use Rattle.pami_theory.proofs.Places.{values_solve, has_values, values_only}
use Rattle.pami_theory.proofs.fresh_laws.values_of_a_regular_basis.Goals as goal

pub returns : goal.returns
returns c = record { by_place = values_solve; has_values = has_values; only_values = values_only }
