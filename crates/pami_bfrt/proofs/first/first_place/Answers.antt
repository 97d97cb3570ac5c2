use Rattle.std.proofs.Common.{◌+◌, ◌<◌, length, sym, ◌∙◌, subst}
use Rattle.pami_bfrt.specs.Firsts.{IsFirst}
use Rattle.pami_bfrt.proofs.Firsts.{first_stays, first_moves}
use Rattle.pami_bfrt.proofs.first.first_place.Goals.{then-not-comes_before, else-not-comes_before}
use Rattle.pami_bfrt.proofs.first.first_place.Goals as goal

pub loop-k-preserved : goal.loop-k-preserved
loop-k-preserved c =
    let cs = c.args.candidates.now in
    elim c.if-not-comes_before.branch [
      | then-not-comes_before w ↦ subst (λ i. IsFirst cs i (c.loop-k.k + 1) × i < length cs) (sym w.best-is) (
        first_moves cs c.loop-k.best c.loop-k.k c.index-candidates-best.result c.index-candidates-k.result c.loop-k.invariant.0 c.loop-k.invariant.1 c.loop-k-test.true c.index-candidates-best.is c.index-candidates-k.is
            (sym c.comes_before.ensures ∙ w.if-not-comes_before.true),
        c.loop-k-test.true,
      )
      | else-not-comes_before w ↦ subst (λ i. IsFirst cs i (c.loop-k.k + 1) × i < length cs) (sym w.best-is) (
        first_stays cs c.loop-k.best c.loop-k.k c.index-candidates-best.result c.index-candidates-k.result c.loop-k.invariant.0 c.loop-k.invariant.1 c.loop-k-test.true c.index-candidates-best.is c.index-candidates-k.is
            (sym c.comes_before.ensures ∙ w.if-not-comes_before.false),
        c.loop-k.invariant.1,
      )
    ]
