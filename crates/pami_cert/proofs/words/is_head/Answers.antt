use Rattle.pami_cert.proofs.FirstWord.{head_known}
use Rattle.pami_cert.proofs.words.is_head.Goals as goal

pub returns-then-eq : goal.returns-then-eq
returns-then-eq c =
    head_known c.args.line.now c.in-Some.first.now c.in-Some.rest.now c.in-Some-first_word.second.now c.in-Some-first_word.field-0-1.now _ _ c.eq.result _
    c.in-Some.ensures c.in-Some-first_word.ensures c.as_slice.ensures c.as_slice-then-eq.ensures c.eq.ensures c.if-eq.true c.eq-then-eq.ensures
