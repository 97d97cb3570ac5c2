use Rattle.pami_lines.proofs.Texts.{text_append, text_one}
use Rattle.pami_lines.proofs.text_laws.texts_join.Goals as goal

pub returns-clause-joined : goal.returns-clause-joined
returns-clause-joined c = text_append

pub returns-clause-one : goal.returns-clause-one
returns-clause-one c = text_one
