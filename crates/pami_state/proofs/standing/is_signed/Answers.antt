use Rattle.pami_state.proofs.Signed.{fixed_signed}
use Rattle.pami_state.proofs.standing.is_signed.Goals as goal

pub returns-then-is_fixed : goal.returns-then-is_fixed
returns-then-is_fixed c = fixed_signed c.args.bounds.now c.args.stand c.args.reduced c.is_fixed.result c.is_fixed.ensures c.if-is_fixed.true
