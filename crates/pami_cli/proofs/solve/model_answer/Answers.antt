use Rattle.std.proofs.Common.{◌≡◌, subst}
use Rattle.std.specs.Result.{IfOk}
use Rattle.pami_form.specs.declared.form.WideBox.{WideBox}
use Rattle.pami_cli.specs.Text.{wide_text}
use Rattle.pami_model.specs.Contents.{contents}
use Rattle.pami_cli.proofs.Told.{wide_model, wide_soundly, fitting_model}
use Rattle.pami_cli.proofs.solve.model_answer.Goals as goal

pub returns-in-Ok-clause-answer : goal.returns-in-Ok-clause-answer
returns-in-Ok-clause-answer c = fitting_model (contents c.args.model.now) c.args.wish c.form_answer.result c.in-Ok.ensures.follows c.form_answer.ensures.answer

pub returns-in-Err-Named-clause-sound : goal.returns-in-Err-Named-clause-sound
returns-in-Err-Named-clause-sound c =
    let wide = rw c.in-Err-Named.field-0-is at c.in-Err-Named.ensures in
    wide_soundly (contents c.args.model.now) c.args.wish.options c.in-Err-Named.wide c.refused_width.result wide.follows

pub returns-in-Err-Named-clause-answer : goal.returns-in-Err-Named-clause-answer
returns-in-Err-Named-clause-answer c =
    let wide = rw c.in-Err-Named.field-0-is at c.in-Err-Named.ensures in
    let So : WideBox → Type 0 = λ w. IfOk c.refused_width.result (λ a. a.text.items ≡ wide_text (contents c.args.model.now) w.variable) in
    wide_model (contents c.args.model.now) c.args.wish c.in-Err-Named.wide c.refused_width.result wide.follows c.refused_width.ensures.status
    (subst So c.in-Err-Named.wide-is c.refused_width.ensures.text)
