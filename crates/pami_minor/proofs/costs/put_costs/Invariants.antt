use Rattle.std.proofs.Common.{◌≡◌, drop, length}
use Rattle.pami_minor.specs.Costs.{put_all}
use Rattle.pami_minor.proofs.costs.put_costs.Given as goal

abbrev pub invariant-loop-cost : goal.invariant-loop-cost
invariant-loop-cost l = (put_all l.costs l.fn.reduced ≡ put_all (drop l.cost-index l.costs) l.reduced) × (length l.reduced ≡ length l.fn.reduced)
