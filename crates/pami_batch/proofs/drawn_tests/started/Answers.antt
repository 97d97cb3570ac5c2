use Rattle.pami_batch.proofs.StartedStates.{started_is}
use Rattle.pami_batch.proofs.drawn_tests.started.Goals as goal

pub returns-in-Ok : goal.returns-in-Ok
returns-in-Ok c =
    started_is c.args.form.now c.as_slice.result.now c.as_slice-2.result.now c.as_slice-3.result.now c.in-Ok.state c.as_slice.ensures c.as_slice-2.ensures
    c.as_slice-3.ensures c.in-Ok.ensures.basis c.in-Ok.ensures.solved c.in-Ok.ensures.weights c.in-Ok.ensures.pivots
