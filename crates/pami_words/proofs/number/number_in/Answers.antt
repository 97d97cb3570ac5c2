use Rattle.std.proofs.Common.{get_or, sym, ◌∙◌, rules}
use Rattle.pami_words.proofs.Digits.{number_is, digit_goes, digit_stops, digits_end, longer_within}
use Rattle.pami_words.proofs.number.number_in.Goals as goal

pub returns-in_err-number : goal.returns-in_err-number
returns-in_err-number c =
    c.from_residual.ensures
    ∙ sym (digit_stops c.args.greatest c.loop-byte.number c.loop-byte.byte-index c.args.text.now c.loop-byte-test.true c.in_err-number.ensures)
    ∙ sym c.loop-byte.invariant.1
    ∙ number_is c.args.greatest c.args.text.now (search rules) c.if-text-gt10.false

pub loop-byte-preserved : goal.loop-byte-preserved
loop-byte-preserved c = (
  longer_within c.args.greatest c.loop-byte.number c.in_ok-number.number (get_or c.args.text.now c.loop-byte.byte-index 0) c.in_ok-number.ensures,
  c.loop-byte.invariant.1 ∙ digit_goes c.args.greatest c.loop-byte.number c.in_ok-number.number c.loop-byte.byte-index c.args.text.now c.loop-byte-test.true
      c.in_ok-number.ensures,
)

pub returns : goal.returns
returns c =
    sym (digits_end c.args.greatest c.loop-byte.number c.loop-byte.byte-index c.args.text.now c.loop-byte-test.false)
    ∙ sym c.loop-byte.invariant.1
    ∙ number_is c.args.greatest c.args.text.now (search rules) c.if-text-gt10.false
