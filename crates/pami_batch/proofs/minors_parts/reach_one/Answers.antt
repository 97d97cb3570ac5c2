use Rattle.pami_form.specs.FormOf.{form_of}
use Rattle.pami_theory.specs.Step.{theta}
use Rattle.pami_method.specs.Task.{refusal}
use Rattle.pami_method.specs.Scripts.{reach_script}
use Rattle.pami_method.specs.declared.words.Spot.TheVariants as spots
use Rattle.pami_minor.specs.Behind.{IsReachedRow}
use Rattle.pami_batch.proofs.Told.{one_told}
use Rattle.pami_batch.proofs.Scripts.{reached_answer}
use Rattle.pami_batch.proofs.minors_parts.reach_one.Goals as goal

pub returns : goal.returns
returns c = record {
  reach = λ limit m next i j h o.
      one_told (IsReachedRow next c.args.place) (spots.Reach c.args.number c.args.place)
      (refusal (reach_script (form_of c.args.form.now) m.reached.basis m.reached.fresh m.step
      (theta (form_of c.args.form.now) m.reached.basis m.reached.fresh m.step) c.args.place))
      c.reach_row.result c.at.result c.at.ensures
      (reached_answer (form_of c.args.form.now) m next c.args.place c.reach_row.result (c.reach_row.ensures.reach limit m next i j h o));
}
