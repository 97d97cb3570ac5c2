use Rattle.std.proofs.Common.{◌∙◌, sym, arith}
use Rattle.std.proofs.lemmas.Int.{ints}
use Rattle.pami_frac.proofs.Digits.{size_zero, size_other}
use Rattle.pami_frac.proofs.frac.Frac.size.Goals as goal

pub returns-then-is_zero-clause-value : goal.returns-then-is_zero-clause-value
returns-then-is_zero-clause-value c = size_zero c.args.self.now (sym c.is_zero.ensures.test ∙ c.if-is_zero.true)

pub returns-clause-value : goal.returns-clause-value
returns-clause-value c = size_other c.args.self.now c.digits.result c.digits-2.result c.magnitude.result c.below.result _ (sym c.is_zero.ensures.test ∙ c.if-is_zero.false)
    c.magnitude.ensures.value c.below.ensures.value c.digits.ensures.value c.digits-2.ensures.value (omega (arith, ints))
