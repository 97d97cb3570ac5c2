use Rattle.std.proofs.Common.{ℕ, List, refl, subst}
use Rattle.std.specs.Result.{IfOk, OnOk}
use Rattle.pami_cli.specs.declared.answer.Answer.{Answer}
use Rattle.pami_cli.specs.Reading.{format_by}
use Rattle.pami_cli.specs.Run.{Answers, SolvesSoundly}
use Rattle.pami_cli.proofs.Runs.{ends_answer, ends_long, ends_nowhere}
use Rattle.pami_cli.proofs.run.solve_file.Goals as goal

pub returns-in-Ok-clause-ends : goal.returns-in-Ok-clause-ends
returns-in-Ok-clause-ends g c = λ words asks.
    ends_answer _ _ c.args.file c.args.lp c.args.wish asks c.in-Ok.bytes.items c.file_answer.result
    c.in-Ok.ensures.whole
    (subst (λ (bytes : List ℕ). IfOk c.file_answer.result (λ (a : Answer). Answers (format_by c.args.lp) bytes c.args.wish a.status a.text.items)) c.as_slice.ensures.value c.file_answer.ensures.answer)
    (subst (λ (bytes : List ℕ). OnOk c.file_answer.result (SolvesSoundly (format_by c.args.lp) bytes c.args.wish.options)) c.as_slice.ensures.value c.file_answer.ensures.sound)
    c.finish_answer.ensures.written c.finish_answer.ensures.nothing

pub returns-in-Err-TooLong-clause-ends : goal.returns-in-Err-TooLong-clause-ends
returns-in-Err-TooLong-clause-ends g c = λ words asks.
    let long = rw c.in-Err-TooLong.field-0-is at c.in-Err-TooLong.ensures in
    ends_long _ _ c.args.file c.args.lp c.args.wish asks c.long_answer.result (long.longer refl) c.long_answer.ensures.status c.long_answer.ensures.text
    c.finish_answer-in-Err-TooLong.ensures.written c.finish_answer-in-Err-TooLong.ensures.nothing

pub returns-in-Err-OutOfMemory-clause-ends : goal.returns-in-Err-OutOfMemory-clause-ends
returns-in-Err-OutOfMemory-clause-ends g c = λ words asks. ends_nowhere words _ (g.K.Sink.told c.args.out.now) _ _
