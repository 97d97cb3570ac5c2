use Rattle.pami_theory.proofs.Decided.{feasible_iff, feasible_or_not}
use Rattle.pami_theory.proofs.basis_laws.dual_feasibility_is_decided.Goals as goal

pub returns : goal.returns
returns c = record { by_signs = feasible_iff; decided = feasible_or_not }
