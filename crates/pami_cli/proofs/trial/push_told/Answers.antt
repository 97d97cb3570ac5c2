use Rattle.pami_model.specs.Contents.{contents}
use Rattle.pami_model_form.specs.ModelForm.{model_form}
use Rattle.pami_model_form.specs.Named.{names_of, counts_of}
use Rattle.pami_cli.specs.Trial.{default_options}
use Rattle.pami_cli.proofs.BestEnds.{told_readable}
use Rattle.pami_cli.proofs.Summed.{summed_up}
use Rattle.pami_cli.proofs.trial.push_told.Goals as goal

pub push_outcome-requires-clause-readable : goal.push_outcome-requires-clause-readable
push_outcome-requires-clause-readable c = told_readable (model_form (contents c.args.model.now)) default_options c.args.answer.now c.args.events.now c.requires.told

pub returns : goal.returns
returns c =
    let m = contents c.args.model.now in
    let t = c.requires.told in
    record {
      told = t.run.record_of;
      answer = t.given;
      run = t.run.run;
      has_status = c.status_of.ensures (model_form m) t.given t.is;
      told_is = summed_up m default_options t.run.record_of t.given c.args.events.now t.run.whole c.args.out.now.items _ _
          (c.in_ok-push_outcome.ensures t.given t.is) (c.in_ok-push_counts.ensures (names_of m) (counts_of m));
    }
