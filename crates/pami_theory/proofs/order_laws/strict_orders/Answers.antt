use Rattle.pami_theory.proofs.Orders.{irreflexive, transitive}
use Rattle.pami_theory.proofs.order_laws.strict_orders.Goals as goal

pub returns : goal.returns
returns g c = record { irreflexive = irreflexive; transitive = transitive }
