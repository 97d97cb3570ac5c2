use Rattle.pami_cli.proofs.OwnTexts.{own_text}
use Rattle.pami_cli.proofs.answer_laws.own_texts_are_not_invalid.Goals as goal

pub returns : goal.returns
returns c = own_text
