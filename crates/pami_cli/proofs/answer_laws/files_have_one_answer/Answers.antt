use Rattle.pami_cli.proofs.Runs.{one_answer}
use Rattle.pami_cli.proofs.answer_laws.files_have_one_answer.Goals as goal

pub returns : goal.returns
returns c = one_answer
