use Rattle.std.proofs.Common.{arith, sym, ap, ◌∙◌, subst}
use Rattle.pami_frac.specs.Decimal.{number_after}
use Rattle.pami_frac.specs.DecimalDigits.{HasDigits}
use Rattle.pami_frac.proofs.DecimalLaws.{after_append}
use Rattle.pami_frac.proofs.Infinite.{digits_joined, none_there}
use Rattle.pami_frac.proofs.decimal.far.significant_of.Goals as goal

pub returns-then-count-eq0-clause-digits : goal.returns-then-count-eq0-clause-digits
returns-then-count-eq0-clause-digits c =
    let none = none_there _ (subst (HasDigits (number_after 0 c.args.whole.now)) c.if-count-eq0.true c.significant-count.ensures.digits) in
    subst (λ n. HasDigits n c.significant.result) (sym (after_append 0 c.args.whole.now c.args.fraction.now ∙ ap (λ n. number_after n c.args.fraction.now) none)) c.significant.ensures.digits

pub returns-clause-digits : goal.returns-clause-digits
returns-clause-digits c = let other = c.if-count-eq0.false in digits_joined c.args.whole.now c.args.fraction.now c.significant-count.result c.requires.fraction c.significant-count.ensures.digits (omega (arith, other))
