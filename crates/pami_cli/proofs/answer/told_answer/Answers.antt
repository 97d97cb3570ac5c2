use Rattle.std.proofs.Common.{◌++◌, ap, ◌∙◌}
use Rattle.pami_model.specs.Contents.{contents}
use Rattle.pami_lines.specs.Line.{text}
use Rattle.pami_text.specs.Record.{answer_lines}
use Rattle.pami_model_form.specs.ModelForm.{model_form}
use Rattle.pami_model_form.specs.Named.{named_of}
use Rattle.pami_cli.specs.Text.{ranges_behind}
use Rattle.pami_cli.proofs.BestEnds.{told_readable}
use Rattle.pami_cli.proofs.Told.{told_run, told_sound}
use Rattle.pami_cli.proofs.answer.told_answer.Goals as goal

pub push_answer-requires-clause-readable : goal.push_answer-requires-clause-readable
push_answer-requires-clause-readable c = told_readable (model_form (contents c.args.model.now)) c.args.wish.options c.args.answer.now c.args.events.now c.requires.told

pub push_wanted-requires-clause-readable : goal.push_wanted-requires-clause-readable
push_wanted-requires-clause-readable c = told_readable (model_form (contents c.args.model.now)) c.args.wish.options c.args.answer.now c.args.events.now c.requires.told

pub returns-clause-answer : goal.returns-clause-answer
returns-clause-answer c =
    let m = contents c.args.model.now in
    let t = c.requires.told in
    told_run m c.args.form.now c.requires.form c.args.wish c.status_of.result c.push_wanted.new.out.items c.args.answer.now c.args.events.now t (c.status_of.ensures (model_form m) t.given t.is)
    (c.in_ok-push_wanted.ensures t.given t.is
    ∙ ap (λ z. z ++ text (ranges_behind m c.args.wish.ranging t.given))
    (c.in_ok-push_answer.ensures.lines t.given t.is ∙ ap (λ z. z ++ text (answer_lines (named_of m) t.given)) c.in_ok-text.ensures))

pub returns-clause-sound : goal.returns-clause-sound
returns-clause-sound c =
    let m = contents c.args.model.now in
    let t = c.requires.told in
    told_sound m c.args.form.now c.requires.form c.args.wish.options c.args.answer.now c.args.events.now t (c.in_ok-push_answer.ensures.certified t.given t.is)
