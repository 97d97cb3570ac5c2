use Rattle.std.proofs.Common.{◌-◌, sym, ◌∙◌, arith}
use Rattle.pami_minor.proofs.Picks.{drop_one}
use Rattle.pami_minor.proofs.pick.drop_rows.Goals as goal

pub loop-i-preserved-then-not-stays : goal.loop-i-preserved-then-not-stays
loop-i-preserved-then-not-stays c =
    let n = c.args.rows.now.ok.0 in
    let same = c.requires.same in
    let positive = c.loop-i-test.true in
    let within = c.loop-i.invariant.1 in (
      c.remove.ensures.by_index.2
          ∙ drop_one (c.loop-i.i - 1) c.loop-i.i c.args.rows.now.items c.loop-i.rows.items c.args.nows.now c.index.result.now c.index-nows-i.result
          (omega (arith, positive)) (omega (arith, n, same, positive, within)) (same ∙ n) c.loop-i.invariant.0 c.index.ensures c.index-nows-i.is
          (sym c.if-not-stays.ensures),
      omega (arith, within),
    )
