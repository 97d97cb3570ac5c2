use Rattle.pami_model.specs.Contents.{contents}
use Rattle.pami_cli.specs.Reading.{format_by}
use Rattle.pami_cli.proofs.Checks.{refused_or_accepted}
use Rattle.pami_cli.proofs.CheckRuns.{ends_accepted, ends_refused_file}
use Rattle.pami_cli.proofs.check.check_bytes.Goals as goal

pub returns-in-Ok-Accepted-clause-ends : goal.returns-in-Ok-Accepted-clause-ends
returns-in-Ok-Accepted-clause-ends g c =
    ends_accepted (format_by c.args.lp) c.args.bytes.now (contents c.in-Ok-Accepted.model) c.args.cert _ _ c.check_cert.result
    (rw c.in-Ok-Accepted.field-0-is at c.in-Ok-Accepted.ensures) c.check_cert.ensures.ends

pub returns-in-Ok-Refused-clause-ends : goal.returns-in-Ok-Refused-clause-ends
returns-in-Ok-Refused-clause-ends g c =
    ends_refused_file (format_by c.args.lp) c.args.bytes.now c.args.cert _ _ c.finish.result c.in-Ok-Refused.answer c.as_slice.result.now
    (rw c.in-Ok-Refused.field-0-is at c.in-Ok-Refused.ensures) c.as_slice.ensures.value c.finish.ensures.written

pub returns-in-Ok-Accepted-clause-refused : goal.returns-in-Ok-Accepted-clause-refused
returns-in-Ok-Accepted-clause-refused g c = λ written refuses.
    absurd (refused_or_accepted (format_by c.args.lp) c.args.bytes.now (contents c.in-Ok-Accepted.model) written refuses
    (rw c.in-Ok-Accepted.field-0-is at c.in-Ok-Accepted.ensures))
