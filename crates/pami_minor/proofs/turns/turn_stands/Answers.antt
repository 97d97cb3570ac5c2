use Rattle.std.proofs.Common.{◌<◌, get_or, subst, sym, ◌∙◌}
use Rattle.std.proofs.lemmas.List.{length-set}
use Rattle.pami_minor.proofs.Turned.{turned_more, turned_ends}
use Rattle.pami_minor.proofs.turns.turn_stands.Goals as goal

pub loop-v-preserved : goal.loop-v-preserved
loop-v-preserved c =
    let low = subst (λ n. get_or c.args.flips.now c.loop-v.v-index 0 < n) (sym c.loop-v.invariant.1) (c.requires c.loop-v.v-index 0 c.loop-v-test.true) in (
      c.loop-v.invariant.0 ∙ turned_more c.args.flips.now c.loop-v.v-index c.loop-v.stands c.flipped-turned.result _ c.loop-v-test.true low c.flipped-turned.ensures,
      length-set c.loop-v.stands (get_or c.args.flips.now c.loop-v.v-index 0) c.flipped-turned.result ∙ c.loop-v.invariant.1,
    )

pub returns : goal.returns
returns c = turned_ends c.args.flips.now c.loop-v.v-index c.loop-v.stands c.loop-v-test.false ∙ sym c.loop-v.invariant.0
