use Rattle.std.proofs.Common.{arith, ◌<◌, ◌≢◌, length}
use Rattle.pami_cert.proofs.FirstWord.{word_alone, word_cut}
use Rattle.pami_cert.proofs.words.first_word.Goals as goal

pub returns-then-place-line : goal.returns-then-place-line
returns-then-place-line c = word_alone c.args.line.now (λ k m. c.blank_place-place.ensures.before k (omega (arith, m, c.if-place-line.true)))

pub returns : goal.returns
returns c =
    let other : c.blank_place-place.result ≢ length c.args.line.now = c.if-place-line.false in
    let within = c.blank_place-place.ensures.within in
    let lt : c.blank_place-place.result < length c.args.line.now = omega (arith, within, other) in
    rw (c.split_at.ensures.front, c.split_at-2.ensures.back)
    (word_cut c.args.line.now c.blank_place-place.result lt c.blank_place-place.ensures.before (c.blank_place-place.ensures.found lt))
