use Rattle.std.proofs.Common.{◌∙◌, length, subst}
use Rattle.pami_form.specs.FormOf.{form_of}
use Rattle.pami_batch.specs.Batches.{IsStateOf}
use Rattle.pami_batch.specs.declared.collecting.CollectedBatch.{CollectedBatch}
use Rattle.pami_batch.proofs.Finished.{later_split, collect_refused}
use Rattle.pami_batch.proofs.Solves.{as_many_pivots, refusal_pivots}
use Rattle.pami_batch.proofs.run.collect_stopped.Goals as goal

pub returns-in-Ok-clause-outcome : goal.returns-in-Ok-clause-outcome
returns-in-Ok-clause-outcome g c = λ b h i.
    let f = form_of c.args.form.now in (
      later_split f b.limit b.history b.first b.minors b.last i.stop i.fits ∙ c.in-Ok.ensures.refused b h,
      i.stop,
      subst (λ (x : CollectedBatch). IsStateOf f b.last x.state) c.in-Ok.field-0-is (c.in-Ok.ensures.state b h),
      c.in-Ok.ensures.pivots b h,
      i.told,
    )

pub returns-in-Ok-clause-pivots : goal.returns-in-Ok-clause-pivots
returns-in-Ok-clause-pivots g c =
    let b = c.requires.batch.0 in
    let fin = c.requires.batch.1 in
    as_many_pivots (form_of c.args.form.now) b.minors c.args.minor.steps.items c.in-Ok.field-0.pivots fin.steps.steps_are (c.in-Ok.ensures.pivots b fin)

pub returns-in-Err-clause-pivots : goal.returns-in-Err-clause-pivots
returns-in-Err-clause-pivots g c = refusal_pivots (length c.args.minor.steps.items) c.in-Err.fault c.refused.result c.refused.ensures

pub returns-in-Err-clause-outcome : goal.returns-in-Err-clause-outcome
returns-in-Err-clause-outcome g c = λ b h i.
    collect_refused (form_of c.args.form.now) b c.args.moves c.in-Err.fault c.refused.result i (c.in-Err.ensures.refused b h) c.refused.ensures
