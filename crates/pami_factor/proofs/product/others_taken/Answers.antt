use Rattle.std.proofs.Common.{sym, ap, ◌∙◌, length, subst, Err}
use Rattle.std.proofs.lemmas.Result.{err_from_is_err_and}
use Rattle.pami_linear.specs.Lists.{get}
use Rattle.pami_script.specs.Dense.{Rising}
use Rattle.pami_script.specs.Script.{each_entry}
use Rattle.pami_script.proofs.Loops.{entry_stops, entry_ends, place_below}
use Rattle.pami_vec.specs.Pivots.{column_pivot}
use Rattle.pami_factor.proofs.BackPasses.{other_of, others_sparse}
use Rattle.pami_factor.proofs.product.others_taken.Goals as goal

pub take_other-requires : goal.take_other-requires
take_other-requires c =
    place_below c.entries-entry-items.result.now 0 (length c.args.right.now) c.loop-entry.entry-index c.entry-item.result
    (subst (λ n. Rising 0 n c.entries-entry-items.result.now) c.requires.1 c.entries-entry-items.ensures.rising) c.loop-entry-test.true c.entry-item.is

pub returns-in_err-rest : goal.returns-in_err-rest
returns-in_err-rest c =
    let p = err_from_is_err_and c.from_residual.result c.from_residual.ensures.1 in
    let q = column_pivot c.args.pivot.now in
    let first = get c.args.right.now q.place in
    p.1 ∙ ap Err p.2
    ∙ entry_stops (each_entry c.entries-entry-items.result.now (other_of q.place c.args.right.now) first) c.entries-entry-items.result.now
    c.loop-entry.entry-index c.entry-item.result (other_of q.place c.args.right.now) c.loop-entry.rest c.in_err-rest.field-0.0
    c.loop-entry.invariant c.loop-entry-test.true c.entry-item.is (sym c.in_err-rest.ensures)
    ∙ sym (others_sparse q c.args.right.now c.entries-entry-items.result.now first c.entries-entry-items.ensures c.requires.1 c.requires.0)

pub returns : goal.returns
returns c =
    let q = column_pivot c.args.pivot.now in
    let first = get c.args.right.now q.place in
    entry_ends (each_entry c.entries-entry-items.result.now (other_of q.place c.args.right.now) first) c.entries-entry-items.result.now
    c.loop-entry.entry-index (other_of q.place c.args.right.now) c.loop-entry.rest c.loop-entry.invariant c.loop-entry-test.false
    ∙ sym (others_sparse q c.args.right.now c.entries-entry-items.result.now first c.entries-entry-items.ensures c.requires.1 c.requires.0)
