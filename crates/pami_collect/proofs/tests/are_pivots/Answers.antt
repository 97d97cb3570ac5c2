use Rattle.std.proofs.Common.{◌≡◌, ◌∙◌, ap, sym, subst, arith, length}
use Rattle.std.specs.List.{All}
use Rattle.std.proofs.lemmas.List.{take_all}
use Rattle.std.proofs.lemmas.List.Elements.{All-more}
use Rattle.pami_frac.specs.Signs.{is_zero}
use Rattle.pami_vec.specs.Pivots.{IsPivot}
use Rattle.pami_collect.proofs.tests.are_pivots.Goals as goal

pub loop-pivot-preserved : goal.loop-pivot-preserved
loop-pivot-preserved c =
    let low = c.if-pivot-rows.false in
    let long = c.len.ensures in
    let same = c.if-len-rows.false in
    All-more (IsPivot c.args.rows) c.args.pivots.now c.loop-pivot.pivot-index c.pivot-item.result c.loop-pivot-test.true c.loop-pivot.invariant
    (subst (IsPivot c.args.rows) c.pivot-item.is
    (omega (arith, low), omega (arith, long, same), ap is_zero (sym c.at.ensures) ∙ sym c.if-is_zero.ensures.test))

pub returns : goal.returns
returns c = λ e. subst (All (IsPivot c.args.rows)) (take_all c.loop-pivot.pivot-index c.args.pivots.now c.loop-pivot-test.false) c.loop-pivot.invariant
