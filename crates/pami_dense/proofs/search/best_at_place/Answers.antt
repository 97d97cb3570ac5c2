use Rattle.std.proofs.Common.{◌≡◌, ◌+◌, suc, sym, subst, arith, true, false}
use Rattle.pami_linear.specs.Pivoting.{better, in_column}
use Rattle.pami_dense.specs.Search.{Cached, allowed, cost_at}
use Rattle.pami_dense.proofs.Candidates.{cached_row}
use Rattle.pami_dense.proofs.search.best_at_place.Goals as goal
use Rattle.pami_dense.proofs.search.best_at_place.Goals.{then-is_allowed, else-is_allowed}

pub loop-row-preserved : goal.loop-row-preserved
loop-row-preserved c =
    let f = cost_at c.args.rest.now in
    let may = allowed c.args.rest.now in
    let next : suc c.loop-row.row ≡ c.loop-row.row + 1 = omega arith in
    λ o h.
    let seen = in_column may f c.loop-row.row c.args.place o in
    subst (λ n. Cached f c.if-is_allowed.best (in_column may f n c.args.place o)) next
    (elim c.if-is_allowed.branch [
      | then-is_allowed w ↦
          cached_row may f c.loop-row.row c.args.place true c.if-is_allowed.best o (w.if-is_allowed.ensures.value)
          (subst (λ b. Cached f b (better true f seen c.loop-row.row c.args.place)) (sym w.best-is)
          (w.first_of_two-best.ensures f seen (sym w.cost_of-cost.ensures) (c.loop-row.invariant o h)))
      | else-is_allowed w ↦
          cached_row may f c.loop-row.row c.args.place false c.if-is_allowed.best o (w.if-is_allowed.ensures.value)
          (subst (λ b. Cached f b seen) (sym w.best-is) (c.loop-row.invariant o h))
    ])
