use Rattle.std.proofs.Common.{◌≡◌, ◌-◌, ◌++◌}
use Rattle.std.specs.List.{range_with_len}
use Rattle.pami_linear.specs.Lists.{get}
use Rattle.pami_minor.specs.Costs.{costs, had_cost}
use Rattle.pami_minor.proofs.costs.slice_costs.Given as goal

abbrev pub invariant-loop-v : goal.invariant-loop-v
invariant-loop-v l =
    costs (had_cost l.stands l.step) (get l.reduced) (range_with_len l.first (l.last - l.first))
    ≡ l.kept.items ++ costs (had_cost l.stands l.step) (get l.reduced) (range_with_len l.v (l.last - l.v))
