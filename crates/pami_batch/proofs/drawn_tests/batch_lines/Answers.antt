use Rattle.pami_batch.proofs.StartedStates.{openable_is}
use Rattle.pami_batch.proofs.drawn_tests.batch_lines.Goals as goal

pub run_turns-requires-clause-openable : goal.run_turns-requires-clause-openable
run_turns-requires-clause-openable c =
    openable_is c.args.form.now c.args.state.now c.in-Ok.chosen.items c.as_slice-rows.result.now c.args.most c.args.limit c.requires c.as_slice-rows.ensures.value
    c.in-Ok.ensures c.ranges.limit.fits

pub push_end-requires-clause-openable : goal.push_end-requires-clause-openable
push_end-requires-clause-openable c =
    openable_is c.args.form.now c.args.state.now c.in-Ok.chosen.items c.as_slice-rows.result.now c.args.most c.args.limit c.requires c.as_slice-rows.ensures.value
    c.in-Ok.ensures c.ranges.limit.fits
