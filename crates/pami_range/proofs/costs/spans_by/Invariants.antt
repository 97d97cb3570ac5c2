use Rattle.std.proofs.Common.{◌≡◌, map}
use Rattle.std.specs.List.{range_with_len}
use Rattle.pami_method.specs.Scripts.{is_nonbasic}
use Rattle.pami_range.specs.Lists.{stand_at, cost_span_at}
use Rattle.pami_range.specs.Factored.{elimination_of}
use Rattle.pami_range.proofs.costs.spans_by.Given as goal

abbrev pub invariant-loop-j : goal.invariant-loop-j
invariant-loop-j g l =
    let x = l.fn.lists in
    l.out.items
    ≡ map (λ j. cost_span_at (elimination_of l.fn.factored) x.columns.now x.bounds.now x.costs.now x.head.now x.stands.now x.reduced.now j (is_nonbasic (stand_at x.stands.now j))) (range_with_len 0 l.j)
