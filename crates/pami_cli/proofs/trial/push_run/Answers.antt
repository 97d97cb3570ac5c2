use Rattle.std.proofs.Common.{◌≡◌, sym, subst}
use Rattle.pami_model.specs.Contents.{contents}
use Rattle.pami_model_form.specs.ModelForm.{model_form}
use Rattle.pami_method.specs.declared.words.Options.{Options}
use Rattle.pami_cli.specs.Solved.{IsTold}
use Rattle.pami_cli.specs.Trial.{default_options}
use Rattle.pami_cli.proofs.Told.{solved_told, runs_truly}
use Rattle.pami_cli.proofs.Trials.{any_holds}
use Rattle.pami_cli.proofs.trial.push_run.Goals as goal

pub push_told-requires-clause-told : goal.push_told-requires-clause-told
push_told-requires-clause-told c =
    let m = contents c.args.model.now in
    subst (λ (o : Options). IsTold (model_form m) o c.in-Ok.answer c.events.result.now) c.default_options.ensures
    (subst (IsTold (model_form m) c.default_options.result c.in-Ok.answer) (sym c.events.ensures)
    (solved_told m c.args.form.now c.requires.form c.default_options.result c.in_ok-teller.teller c.solve.new.teller (λ es. c.solve.new.teller ≡ es) 0 0 c.in-Ok.answer c.in_ok-teller.ensures c.in-Ok.ensures.run))

pub returns-in-Ok-clause-holds : goal.returns-in-Ok-clause-holds
returns-in-Ok-clause-holds c = any_holds c.push_told.result (runs_truly (contents c.args.model.now) c.args.form.now c.requires.form default_options)
