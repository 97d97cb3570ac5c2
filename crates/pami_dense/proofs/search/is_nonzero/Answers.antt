use Rattle.std.proofs.Common.{not, ap}
use Rattle.pami_dense.proofs.search.is_nonzero.Goals as goal

pub returns : goal.returns
returns c = ap not c.is_zero.ensures.test
