use Rattle.std.proofs.Common.{◌<◌, [], sym, ◌∙◌, subst}
use Rattle.std.proofs.lemmas.List.{get_or_default}
use Rattle.pami_dense.proofs.Rows.{rows_next}
use Rattle.pami_dense.proofs.reduce.reduce_rows.Goals as goal

pub loop-h-preserved : goal.loop-h-preserved
loop-h-preserved c =
    let h = c.loop-h.h in
    let rows = c.args.rows.now in
    let next = c.in_ok-next.next in
    c.loop-h.invariant
    ∙ rows_next c.args.active.now c.args.places.now c.args.place h rows c.args.kept.now c.loop-h.out.items c.push.new.self.items
    c.loop-h.multipliers.items c.push-in-loop-h.new.self.items c.as_slice.result.now next.row next.multiplier
    (subst (λ n. h < n) (sym c.requires.all) c.loop-h-test.true) c.loop-h-test.true
    (c.as_slice.ensures ∙ c.index-rows-h.is ∙ get_or_default rows h c.index-rows-h.result [] c.loop-h-test.true)
    c.in_ok-next.ensures c.in_ok-push.ensures.items c.in_ok-push-2.ensures.items
