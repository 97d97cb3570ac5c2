use Rattle.pami_cli.proofs.Runs.{ends_told}
use Rattle.pami_cli.proofs.run.solve_trial.Goals as goal

pub returns-clause-ends : goal.returns-clause-ends
returns-clause-ends g c =
    ends_told c.args.seed c.args.sources c.args.sinks _ c.finish_answer.result c.trial_answer.result c.trial_answer.ensures.answer c.trial_answer.ensures.holds
    c.finish_answer.ensures.written c.finish_answer.ensures.nothing
