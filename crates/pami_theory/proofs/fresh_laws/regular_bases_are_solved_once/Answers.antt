use Rattle.pami_theory.proofs.Solved.{has_fresh, only_fresh, fresh_regular}
use Rattle.pami_theory.proofs.fresh_laws.regular_bases_are_solved_once.Goals as goal

pub returns : goal.returns
returns c = record { solved = has_fresh; once = only_fresh; regular = fresh_regular }
