use Rattle.std.proofs.Common.{◌∙◌, ap, Err}
use Rattle.std.proofs.lemmas.Result.{err_from_is_err_and}
use Rattle.pami_deferral.specs.Listed.{collect_script}
use Rattle.pami_vec.specs.Pivots.{column_pivots}
use Rattle.pami_collect.specs.Exchanges.{exchanges_of}
use Rattle.pami_collect.proofs.Movements.{flipped_stops, exchanged_stops, exchanged_goes, becomes_on, becomes_err}
use Rattle.pami_collect.proofs.values.move_values.Goals as goal

pub returns-in-Err : goal.returns-in-Err
returns-in-Err c =
    flipped_stops c.args.values.now c.args.flips.now c.entries.result.now (exchanges_of c.args.steps.now c.args.columns.now)
    (column_pivots c.args.pivots.now) c.in-Err.stop.place c.in-Err.stop.refused c.entries.ensures c.requires.flips c.in-Err.ensures

pub returns-in_err-exchange_all : goal.returns-in_err-exchange_all
returns-in_err-exchange_all c =
    let p = err_from_is_err_and c.from_residual.result c.from_residual.ensures.1 in
    let xs = exchanges_of c.args.steps.now c.args.columns.now in
    let ps = column_pivots c.args.pivots.now in
    becomes_err (collect_script c.args.values.now c.args.flips.now xs ps) _ c.from_residual.result c.in_err-exchange_all.field-0.0 (p.1 ∙ ap Err p.2)
    (exchanged_stops c.args.values.now c.args.flips.now c.entries.result.now xs ps c.change_members.new.members c.in_err-exchange_all.field-0.0
    c.entries.ensures c.requires.flips c.in-Ok.ensures c.in_err-exchange_all.ensures)

pub returns : goal.returns
returns c =
    let xs = exchanges_of c.args.steps.now c.args.columns.now in
    let ps = column_pivots c.args.pivots.now in
    becomes_on _ _ c.go_through_all.new.values c.go_through_all.result
    (exchanged_goes c.args.values.now c.args.flips.now c.entries.result.now xs ps c.change_members.new.members c.exchange_all.new.values
    c.entries.ensures c.requires.flips c.in-Ok.ensures c.in_ok-exchange_all.ensures)
    c.go_through_all.ensures.script
