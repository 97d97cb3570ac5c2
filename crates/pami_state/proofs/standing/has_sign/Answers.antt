use Rattle.std.proofs.Common.{sym, subst, ◌↔◌, IsTrue}
use Rattle.pami_theory.specs.declared.words.Stand.{Stand}
use Rattle.pami_theory.specs.Fresh.{IsSignedFor}
use Rattle.pami_state.proofs.Signed.{zero_at_upper}
use Rattle.pami_state.proofs.standing.has_sign.Goals as goal

pub returns-else-is_negative : goal.returns-else-is_negative
returns-else-is_negative c =
    subst (λ (s : Stand). IsTrue c.is_zero.result ↔ IsSignedFor s c.args.reduced) (sym c.in-Upper.is)
    (zero_at_upper c.args.reduced c.is_negative-in-Upper.result c.is_zero.result c.is_negative-in-Upper.ensures.value c.if-is_negative.false c.is_zero.ensures.value)
