use Rattle.pami_cli.proofs.Runs.{some_check}
use Rattle.pami_cli.proofs.answer_laws.checks_have_an_answer.Goals as goal

pub returns : goal.returns
returns c = some_check
