use Rattle.pami_theory.proofs.Steps.{step_pivot_entry, step_pivot, step_is_basis, step_regular}
use Rattle.pami_theory.proofs.step_laws.steps_keep_a_regular_basis.Goals as goal

pub returns : goal.returns
returns c = record { pivot = step_pivot_entry; pivot_of_column = step_pivot; basis = step_is_basis; regular = step_regular }
