use Rattle.std.proofs.Common.{arith, ◌∙◌}
use Rattle.pami_edge.proofs.Growing.{grows_more}
use Rattle.pami_edge.proofs.whole.write_whole.Goals as goal

pub loop-at-preserved : goal.loop-at-preserved
loop-at-preserved g c = record {
  within = grind (arith, Rattle.std.proofs.lemmas.Grind.common_steps);
  grown = grows_more (g.K.Sink.told c.args.sink.now) (g.K.Sink.told c.loop-at.sink) (g.K.Sink.told c.put.new.self) c.args.bytes.now c.loop-at.at c.in_ok-at.field-0 c.loop-at.invariant.grown c.in_ok-at.ensures.appended;
  steady = c.in_ok-at.ensures.steady ∙ c.loop-at.invariant.steady;
}
