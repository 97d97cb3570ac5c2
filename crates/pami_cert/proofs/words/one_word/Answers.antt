use Rattle.pami_cert.proofs.FirstWord.{two_at_least}
use Rattle.pami_cert.proofs.words.one_word.Goals as goal

pub returns-in-Some : goal.returns-in-Some
returns-in-Some c = two_at_least c.args.line.now c.in-Some.field-0.0.now c.in-Some.field-0.1.now c.in-Some.ensures
