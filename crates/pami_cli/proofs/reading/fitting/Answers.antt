use Rattle.pami_model.specs.Contents.{contents}
use Rattle.pami_cli.proofs.CheckRuns.{wide_taken}
use Rattle.pami_cli.proofs.reading.fitting.Goals as goal

pub returns-in-Err-Named : goal.returns-in-Err-Named
returns-in-Err-Named c =
    let wide = rw c.in-Err-Named.field-0-is at c.in-Err-Named.ensures in
    wide_taken (contents c.args.model) c.in-Err-Named.wide c.in_ok-answer-in-Err-Named.answer wide.follows c.in_ok-answer-in-Err-Named.ensures.status c.in_ok-answer-in-Err-Named.ensures.text
