use Rattle.std.proofs.Common.{refl}
use Rattle.pami_form.specs.FormOf.{form_of}
use Rattle.pami_phase.proofs.Starting.{start_ready, start_stands, start_feasible}
use Rattle.pami_phase.proofs.tests.ready_start.Goals as goal

pub dual_feasible-requires-clause-stands : goal.dual_feasible-requires-clause-stands
dual_feasible-requires-clause-stands c = start_stands c.args.form.now c.in-Ok.state c.as_slice.result.now c.as_slice.ensures c.in-Ok.ensures.starts

pub returns : goal.returns
returns c =
    start_ready c.args.form.now c.args.limit (form_of c.args.form.now) c.in-Ok.state refl c.in-Ok.ensures.starts
    ((start_feasible c.args.form.now c.in-Ok.state c.as_slice.result.now c.dual_feasible.result c.as_slice.ensures c.in-Ok.ensures.starts c.dual_feasible.ensures.feasible).0
    c.if-not-dual_feasible.false)
