use Rattle.std.proofs.Common.{◌∙◌}
use Rattle.pami_state.proofs.Listed.{table_more}
use Rattle.pami_method.specs.Scripts.{is_nonbasic}
use Rattle.pami_range.specs.Lists.{cost_span_at, stand_at}
use Rattle.pami_range.specs.Factored.{elimination_of}
use Rattle.pami_range.proofs.costs.spans_by.Goals as goal

pub loop-j-preserved : goal.loop-j-preserved
loop-j-preserved g c =
    let x = c.args.lists.now in
    c.in_ok-push.ensures.items
    ∙ table_more (λ j. cost_span_at (elimination_of c.args.factored.now) x.columns.now x.bounds.now x.costs.now x.head.now x.stands.now x.reduced.now j (is_nonbasic (stand_at x.stands.now j)))
    c.loop-j.j c.loop-j.out.items c.in_ok-span.span c.loop-j.invariant c.in_ok-span.ensures.span
