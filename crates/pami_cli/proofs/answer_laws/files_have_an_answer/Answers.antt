use Rattle.pami_cli.proofs.Runs.{some_answer}
use Rattle.pami_cli.proofs.answer_laws.files_have_an_answer.Goals as goal

pub returns : goal.returns
returns c = some_answer
