use Rattle.std.proofs.Common.{◌+◌, ◌*◌, ◌-◌, sym, ap, ◌∙◌, get_or}
use Rattle.std.proofs.lemmas.List.{take_all}
use Rattle.pami_frac.specs.Decimal.{number_after}
use Rattle.pami_frac.proofs.DecimalLaws.{after_more}
use Rattle.pami_frac.proofs.Infinite.{digits_behind, no_digits}
use Rattle.pami_frac.proofs.decimal.far.significant.Goals as goal

pub returns-then-digit-ne48-clause-digits : goal.returns-then-digit-ne48-clause-digits
returns-then-digit-ne48-clause-digits c = digits_behind c.args.digits.now c.loop-place.place c.loop-place-test.true c.requires c.loop-place.invariant c.if-digit-ne48.true

pub loop-place-preserved : goal.loop-place-preserved
loop-place-preserved c =
    let more = after_more 0 c.args.digits.now c.loop-place.place c.loop-place-test.true in
    let none = c.loop-place.invariant in
    let zero_here = c.if-digit-ne48.false in
    more ∙ ap (λ n. n * 10 + (get_or c.args.digits.now c.loop-place.place 0 - 48)) none ∙ ap (λ d. 0 * 10 + (d - 48)) zero_here

pub returns-clause-digits : goal.returns-clause-digits
returns-clause-digits c = no_digits _ (ap (number_after 0) (sym (take_all c.loop-place.place c.args.digits.now c.loop-place-test.false)) ∙ c.loop-place.invariant)
