use Rattle.pami_cli.proofs.Trials.{one_trial}
use Rattle.pami_cli.proofs.answer_laws.trials_have_one_answer.Goals as goal

pub returns : goal.returns
returns c = one_trial
