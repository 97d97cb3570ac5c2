use Rattle.pami_model.specs.Contents.{contents}
use Rattle.pami_cli.specs.Reading.{format_by}
use Rattle.pami_cli.proofs.CheckRuns.{taken_ok}
use Rattle.pami_cli.proofs.reading.take_file.Goals as goal

pub returns-in-Ok : goal.returns-in-Ok
returns-in-Ok c = taken_ok (format_by c.args.lp) c.args.bytes.now (contents c.in-Ok.model) c.fitting.result c.in-Ok.ensures.accepted c.fitting.ensures
