use Rattle.pami_cli.proofs.Trials.{some_trial}
use Rattle.pami_cli.proofs.answer_laws.trials_have_an_answer.Goals as goal

pub returns : goal.returns
returns c = some_trial
