use Rattle.std.proofs.Common.{arith}
use Rattle.pami_lp_text.proofs.Words.{other_letter, same_letters}
use Rattle.pami_lp_text.proofs.class.is_word.Goals as goal

pub returns-then-to_ascii_lowercase-word : goal.returns-then-to_ascii_lowercase-word
returns-then-to_ascii_lowercase-word c = other_letter c.args.text.now c.args.word.now c.loop-i.i c.to_ascii_lowercase.result c.loop-i-test.true c.to_ascii_lowercase.ensures.value c.if-to_ascii_lowercase-word.true

pub returns : goal.returns
returns c = same_letters c.args.text.now c.args.word.now c.loop-i.i c.if-text-word.false (omega (arith, c.loop-i-test.false, c.loop-i.auto.i-end)) c.loop-i.invariant
