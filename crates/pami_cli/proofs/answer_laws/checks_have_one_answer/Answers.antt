use Rattle.pami_cli.proofs.Runs.{one_checked}
use Rattle.pami_cli.proofs.answer_laws.checks_have_one_answer.Goals as goal

pub returns : goal.returns
returns c = one_checked
