use Rattle.std.proofs.Common.{◌∙◌, arith, length}
use Rattle.pami_factoring.specs.Factor.{flag}
use Rattle.pami_lu.proofs.Firsts.{first_step}
use Rattle.pami_dense.proofs.rest.first_active.Goals as goal

pub loop-k-preserved : goal.loop-k-preserved
loop-k-preserved c = (
  c.loop-k.invariant.0 ∙ first_step (length c.args.places.now) c.loop-k.k (flag c.args.places.now) (omega arith) c.if-not-places-k.true,
  omega arith,
)
