use Rattle.pami_model.specs.Contents.{contents}
use Rattle.pami_cli.proofs.Trials.{trial_told, never_wide}
use Rattle.pami_cli.proofs.trial.trial_answer.Goals as goal

pub returns-in-Ok-clause-answer : goal.returns-in-Ok-clause-answer
returns-in-Ok-clause-answer c =
    trial_told (contents c.in_ok-model.model) c.args.seed c.args.sources c.args.sinks c.in_ok-status-in-Ok.status c.in_ok-text.text.items c.push_run.new.out.items
    c.in_ok-model.ensures c.in_ok-text.ensures c.in_ok-status-in-Ok.ensures.told

pub unreachable-requires : goal.unreachable-requires
unreachable-requires c =
    let wide = rw c.in-Err-Named.field-0-is at c.in-Err-Named.ensures in
    never_wide (contents c.in_ok-model.model) c.args.seed c.args.sources c.args.sinks _ c.in_ok-model.ensures wide.follows
