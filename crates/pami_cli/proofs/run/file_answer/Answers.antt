use Rattle.std.proofs.Common.{◌≡◌, subst}
use Rattle.std.specs.Result.{IfOk}
use Rattle.pami_model.specs.declared.fault.FileFault.{FileFault}
use Rattle.pami_cli.specs.Text.{refused_text}
use Rattle.pami_model.specs.Contents.{contents}
use Rattle.pami_cli.specs.Reading.{format_by}
use Rattle.pami_cli.proofs.Runs.{answered_ok, sound_ok, refused_ok, refused_soundly, any_soundly}
use Rattle.pami_cli.proofs.run.file_answer.Goals as goal

pub returns-in-Ok-clause-answer : goal.returns-in-Ok-clause-answer
returns-in-Ok-clause-answer c =
    answered_ok (format_by c.args.lp) c.args.bytes.now c.args.wish (contents c.in-Ok.model) c.model_answer.result c.in-Ok.ensures.accepted c.model_answer.ensures.answer

pub returns-in-Ok-clause-sound : goal.returns-in-Ok-clause-sound
returns-in-Ok-clause-sound c =
    sound_ok (format_by c.args.lp) c.args.bytes.now c.args.wish.options (contents c.in-Ok.model) c.model_answer.result c.in-Ok.ensures.accepted c.model_answer.ensures.sound

pub returns-in-Err-Named-clause-sound : goal.returns-in-Err-Named-clause-sound
returns-in-Err-Named-clause-sound c =
    let refused = rw c.in-Err-Named.field-0-is at c.in-Err-Named.ensures in
    any_soundly c.refused_file.result (refused_soundly (format_by c.args.lp) c.args.bytes.now c.args.wish.options c.in-Err-Named.fault refused.refused)

pub returns-in-Err-Named-clause-answer : goal.returns-in-Err-Named-clause-answer
returns-in-Err-Named-clause-answer c =
    let refused = rw c.in-Err-Named.field-0-is at c.in-Err-Named.ensures in
    let So : FileFault → Type 0 = λ f. IfOk c.refused_file.result (λ a. a.text.items ≡ refused_text f) in
    refused_ok (format_by c.args.lp) c.args.bytes.now c.args.wish c.in-Err-Named.fault c.refused_file.result refused.refused c.refused_file.ensures.status
    (subst So c.in-Err-Named.fault-is c.refused_file.ensures.text)
