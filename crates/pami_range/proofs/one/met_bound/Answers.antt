use Rattle.pami_range.proofs.Loops.{above_nonzero, below_nonzero}
use Rattle.pami_range.proofs.one.met_bound.Goals as goal

pub returns-then-is_below-clause-nonzero : goal.returns-then-is_below-clause-nonzero
returns-then-is_below-clause-nonzero c = λ w e. above_nonzero c.args.side c.args.a c.toward-turned.result c.zero.result c.is_below.result c.toward-turned.ensures c.zero.ensures c.is_below.ensures c.if-is_below.true

pub returns-then-is_below-2-clause-nonzero : goal.returns-then-is_below-2-clause-nonzero
returns-then-is_below-2-clause-nonzero c = λ w e. below_nonzero c.args.side c.args.a c.toward-turned.result c.zero-else-is_below.result c.is_below-else-is_below.result c.toward-turned.ensures c.zero-else-is_below.ensures c.is_below-else-is_below.ensures c.if-is_below-2.true
