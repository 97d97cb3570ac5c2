use Rattle.pami_theory.proofs.Orders.{ordered_permutes, ordered_sorted, ordered_is}
use Rattle.pami_theory.proofs.order_laws.lists_are_put_in_order.Goals as goal

pub returns : goal.returns
returns g c = record { permutation = ordered_permutes; sorted = ordered_sorted; only = ordered_is }
