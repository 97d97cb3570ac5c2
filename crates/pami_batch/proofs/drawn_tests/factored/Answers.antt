use Rattle.pami_batch.proofs.StartedStates.{factor_is}
use Rattle.pami_batch.proofs.drawn_tests.factored.Goals as goal

pub returns-in-Ok : goal.returns-in-Ok
returns-in-Ok c =
    factor_is c.args.form.now c.args.state.now c.as_slice-columns.result.now c.as_slice.result.now c.of.result c.in-Ok.lu c.args.form.now.kept c.requires
    c.as_slice-columns.ensures c.as_slice.ensures c.in-Ok.ensures.script c.of.ensures.steps c.of.ensures.pivots
