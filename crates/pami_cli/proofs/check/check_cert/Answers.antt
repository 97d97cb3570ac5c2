use Rattle.std.proofs.Common.{ℕ, List, refl, subst}
use Rattle.std.specs.Result.{IfOk}
use Rattle.pami_model.specs.Contents.{contents}
use Rattle.pami_cli.specs.declared.answer.Answer.{Answer}
use Rattle.pami_cli.specs.Judged.{Judges}
use Rattle.pami_cli.proofs.CheckRuns.{ends_cert, ends_long_cert}
use Rattle.pami_cli.proofs.check.check_cert.Goals as goal

pub returns-in-Ok-clause-ends : goal.returns-in-Ok-clause-ends
returns-in-Ok-clause-ends g c =
    ends_cert (contents c.args.model.now) c.args.cert _ _ c.finish_answer.result c.in-Ok.bytes.items c.cert_answer.result
    c.in-Ok.ensures.whole
    (subst (λ (bytes : List ℕ). IfOk c.cert_answer.result (λ (a : Answer). Judges (contents c.args.model.now) bytes a.status a.text.items)) c.as_slice.ensures.value c.cert_answer.ensures)
    c.finish_answer.ensures.written c.finish_answer.ensures.nothing

pub returns-in-Err-TooLong-clause-ends : goal.returns-in-Err-TooLong-clause-ends
returns-in-Err-TooLong-clause-ends g c =
    let long = rw c.in-Err-TooLong.field-0-is at c.in-Err-TooLong.ensures in
    ends_long_cert (contents c.args.model.now) c.args.cert _ _ c.finish_answer-in-Err-TooLong.result c.long_cert.result (long.longer refl) c.long_cert.ensures.status c.long_cert.ensures.text
    c.finish_answer-in-Err-TooLong.ensures.written c.finish_answer-in-Err-TooLong.ensures.nothing
