use Rattle.pami_theory.proofs.Comparisons.{walk_is_order, walk_either}
use Rattle.pami_theory.proofs.order_laws.candidates_are_ordered.Goals as goal

pub returns : goal.returns
returns c = record { strict = walk_is_order; one_first = walk_either }
