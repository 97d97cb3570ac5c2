use Rattle.std.proofs.Common.{ap, ◌∙◌}
use Rattle.pami_algebra.specs.Reduced.{over}
use Rattle.pami_algebra.specs.Operations.{neg_f}
use Rattle.pami_frac.proofs.Negated.{neg_back, neg_over}
use Rattle.pami_frac.proofs.frac.Frac.negate.Goals as goal

pub returns : goal.returns
returns c =
    ap (λ z. over z c.self.inside.denominator) (neg_back c.self.inside.numerator c.self.inside.denominator c.self.invariant)
    ∙ neg_over c.self.inside.numerator c.self.inside.denominator c.self.invariant.lowest ∙ ap neg_f c.self.view_is
