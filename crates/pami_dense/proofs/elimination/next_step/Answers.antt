use Rattle.std.proofs.Common.{length, set, false}
use Rattle.pami_dense.proofs.Steps.{pivoted_at, shape_left, whole_left}
use Rattle.pami_dense.proofs.elimination.next_step.Goals as goal

pub take_step-requires-clause-row_low : goal.take_step-requires-clause-row_low
take_step-requires-clause-row_low c = (pivoted_at c.args.rest c.in-Some.pivot.row c.in-Some.pivot.place c.requires.whole c.in-Some.ensures).row_low

pub take_step-requires-clause-row_in : goal.take_step-requires-clause-row_in
take_step-requires-clause-row_in c = (pivoted_at c.args.rest c.in-Some.pivot.row c.in-Some.pivot.place c.requires.whole c.in-Some.ensures).row_in

pub take_step-requires-clause-place_low : goal.take_step-requires-clause-place_low
take_step-requires-clause-place_low c = (pivoted_at c.args.rest c.in-Some.pivot.row c.in-Some.pivot.place c.requires.whole c.in-Some.ensures).place_low

pub take_step-requires-clause-nonzero : goal.take_step-requires-clause-nonzero
take_step-requires-clause-nonzero c = (pivoted_at c.args.rest c.in-Some.pivot.row c.in-Some.pivot.place c.requires.whole c.in-Some.ensures).nonzero

pub returns-in-Ok-clause-whole : goal.returns-in-Ok-clause-whole
returns-in-Ok-clause-whole c =
    let q = c.in-Some.pivot in
    let t = c.in-Ok.taken in
    let r = c.args.rest in
    whole_left (length r.rows.items) t.rest (set r.active.items q.row false) (set r.places.items q.place false) c.in-Ok.ensures.active c.in-Ok.ensures.places
    (shape_left r q.row q.place t c.requires.whole c.in-Some.ensures c.in-Ok.ensures.script)

pub returns-in-Ok-clause-count : goal.returns-in-Ok-clause-count
returns-in-Ok-clause-count c =
    (shape_left c.args.rest c.in-Some.pivot.row c.in-Some.pivot.place c.in-Ok.taken c.requires.whole c.in-Some.ensures c.in-Ok.ensures.script).tall
