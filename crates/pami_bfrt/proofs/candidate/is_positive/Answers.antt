use Rattle.std.proofs.Common.{not, refl, sym, ap, ◌∙◌}
use Rattle.pami_algebra.specs.Operations.{is_zero}
use Rattle.pami_bfrt.proofs.Tested.{positive_by}
use Rattle.pami_bfrt.proofs.candidate.is_positive.Goals as goal

pub returns-then-not-is_negative : goal.returns-then-not-is_negative
returns-then-not-is_negative c =
    ap not c.is_zero.ensures.test
    ∙ positive_by c.args.a (is_zero c.args.a) (sym c.is_negative.ensures.test ∙ c.if-not-is_negative.true) refl
