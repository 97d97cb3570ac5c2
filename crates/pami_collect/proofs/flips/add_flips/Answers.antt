use Rattle.std.proofs.Common.{ap, sym, ◌∙◌, length}
use Rattle.pami_vec.specs.declared.step.Step.{Step}
use Rattle.pami_collect.proofs.Totals.{flip_stops, flip_goes_on}
use Rattle.pami_collect.proofs.flips.add_flips.Goals as goal

pub returns-in-Err : goal.returns-in-Err
returns-in-Err c =
    flip_stops _ c.args.steps.now c.loop-step.step-index c.step-item.result c.loop-step.rows c.entries.result.now c.in-Err.stop.place c.in-Err.stop.refused
    c.loop-step.invariant.0 c.loop-step-test.true c.step-item.is c.entries.ensures
    (ap (λ (s : Step). length s.flip_column) c.step-item.is ∙ c.requires c.loop-step.step-index c.step-item.result c.loop-step-test.true
    ∙ sym c.loop-step.invariant.1)
    c.in-Err.ensures

pub loop-step-preserved : goal.loop-step-preserved
loop-step-preserved c = (
  flip_goes_on _ c.args.steps.now c.loop-step.step-index c.step-item.result c.loop-step.rows c.change_members.new.members c.entries.result.now
      c.loop-step.invariant.0 c.loop-step-test.true c.step-item.is c.entries.ensures
      (ap (λ (s : Step). length s.flip_column) c.step-item.is ∙ c.requires c.loop-step.step-index c.step-item.result c.loop-step-test.true
      ∙ sym c.loop-step.invariant.1)
      c.in-Ok.ensures,
  c.in-Ok.ensures.as_many ∙ c.loop-step.invariant.1,
)
