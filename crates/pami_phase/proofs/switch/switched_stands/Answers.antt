use Rattle.std.proofs.Common.{◌∙◌}
use Rattle.pami_theory.specs.declared.words.Stand.TheVariants as stands
use Rattle.pami_phase.proofs.Restood.{switched_more}
use Rattle.pami_phase.proofs.switch.switched_stands.Goals as goal

pub loop-v-preserved : goal.loop-v-preserved
loop-v-preserved c =
    c.in_ok-push.ensures.items
    ∙ switched_more c.args.bounds.now c.args.stands.now c.args.reduced.now c.loop-v.v c.loop-v.found.items c.index-bounds-v.result stands.Basic c.switched_stand.result c.index-reduced-v.result
    c.loop-v.invariant c.loop-v-test.true c.requires.stands c.requires.reduced c.index-bounds-v.is c.index-reduced-v.is c.switched_stand.ensures
