use Rattle.std.proofs.Common.{◌≡◌, sym, subst}
use Rattle.pami_model.specs.Contents.{contents}
use Rattle.pami_model_form.specs.ModelForm.{model_form}
use Rattle.pami_cli.specs.Solved.{IsTold}
use Rattle.pami_cli.proofs.Told.{solved_told}
use Rattle.pami_cli.proofs.solve.form_answer.Goals as goal

pub told_answer-requires-clause-told : goal.told_answer-requires-clause-told
told_answer-requires-clause-told c =
    let m = contents c.args.model.now in
    subst (IsTold (model_form m) c.args.wish.options c.in-Ok.answer) (sym c.events.ensures)
    (solved_told m c.args.form.now c.requires.form c.args.wish.options c.in_ok-teller.teller c.solve.new.teller (λ es. c.solve.new.teller ≡ es) 0 0 c.in-Ok.answer c.in_ok-teller.ensures c.in-Ok.ensures.run)
