use Rattle.pami_range.proofs.Loops.{may_nonzero}
use Rattle.pami_range.proofs.one.bounds_from.Goals as goal

pub returns-then-not-is_fixed-clause-nonzero : goal.returns-then-not-is_fixed-clause-nonzero
returns-then-not-is_fixed-clause-nonzero c = may_nonzero c.args.side c.args.stand c.args.a c.toward.result c.may_enter.result c.toward.ensures c.may_enter.ensures
