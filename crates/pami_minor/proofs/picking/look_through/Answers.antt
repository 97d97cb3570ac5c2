use Rattle.std.proofs.Common.{ℕ, sym, ap, ◌∙◌}
use Rattle.std.specs.Global.{Vec}
use Rattle.pami_minor.proofs.HandedRows.{kept_next, dropped_next}
use Rattle.pami_minor.proofs.picking.look_through.Goals as goal
use Rattle.pami_minor.proofs.picking.look_through.Goals.{then-stays, else-stays+in_ok-push}

pub loop-row-preserved : goal.loop-row-preserved
loop-row-preserved c = elim c.if-stays.branch [
  | then-stays w ↦
      kept_next c.args.rows.now c.loop-row.row-index c.row-item.result c.in_ok-now.now c.loop-row.dropped.items c.if-stays.dropped.items c.loop-row.best
      c.if-stays.best c.loop-row-test.true c.row-item.is (sym c.look.ensures ∙ c.in_ok-now.was) (sym c.stays.ensures ∙ w.if-stays.true)
      (ap (λ (v : Vec ℕ). v.items) w.dropped-is) (w.best-is ∙ w.better-best.ensures) c.loop-row.invariant
  | else-stays+in_ok-push w ↦
      dropped_next c.args.rows.now c.loop-row.row-index c.row-item.result c.in_ok-now.now c.loop-row.dropped.items c.if-stays.dropped.items c.loop-row.best
      c.if-stays.best c.loop-row-test.true c.row-item.is (sym c.look.ensures ∙ c.in_ok-now.was) (sym c.stays.ensures ∙ w.if-stays.false)
      (ap (λ (v : Vec ℕ). v.items) w.dropped-is ∙ w.in_ok-push.ensures.items) w.best-is c.loop-row.invariant
]
