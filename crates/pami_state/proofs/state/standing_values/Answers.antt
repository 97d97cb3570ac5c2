use Rattle.std.proofs.Common.{◌∙◌, arith}
use Rattle.pami_theory.specs.declared.words.Stand.TheVariants as stands
use Rattle.pami_state.specs.Sums.{standing_at}
use Rattle.pami_state.proofs.Listed.{table_more, standing_read}
use Rattle.pami_state.proofs.state.standing_values.Goals as goal

pub loop-v-preserved : goal.loop-v-preserved
loop-v-preserved c =
    c.in_ok-push.ensures.items
    ∙ table_more (standing_at c.args.bounds.now c.args.stands.now) c.loop-v.v c.loop-v.list.items c.value_at.result c.loop-v.invariant
    (standing_read c.args.bounds.now c.args.stands.now c.loop-v.v c.index-bounds-v.result stands.Basic c.value_at.result
    c.loop-v-test.true (let n = c.requires in let l = c.loop-v-test.true in omega (arith, n, l)) c.index-bounds-v.is c.value_at.ensures)
