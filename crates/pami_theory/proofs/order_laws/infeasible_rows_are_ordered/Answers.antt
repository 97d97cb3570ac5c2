use Rattle.pami_theory.proofs.Comparisons.{choice_is_order, choice_either}
use Rattle.pami_theory.proofs.order_laws.infeasible_rows_are_ordered.Goals as goal

pub returns : goal.returns
returns c = record { strict = choice_is_order; one_first = choice_either }
