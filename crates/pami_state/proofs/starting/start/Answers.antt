use Rattle.std.proofs.Common.{◌≡◌, sym, ap, ◌∙◌, ◌-◌, length, take, arith, Ok}
use Rattle.std.proofs.lemmas.List.{length-take-le}
use Rattle.std.proofs.lemmas.Result.{err_from_is_err_and}
use Rattle.pami_state.specs.declared.state.State.{State}
use Rattle.pami_state.proofs.Begun.{basis_is, solved_is, stands_made, stands_made_length, sums_made, head_made, script_is, script_fits, script_refused}
use Rattle.pami_state.proofs.starting.start.Goals as goal

pub row_sums-requires-clause-stands : goal.row_sums-requires-clause-stands
row_sums-requires-clause-stands c =
    let m = c.row_count-rows.result in
    let columns = c.args.columns.now in
    let a : length (take (length columns - m) columns) ≡ length columns - m = length-take-le (length columns - m) columns (omega arith) in
    let b : length c.as_slice.result.now ≡ length c.args.bounds.now =
    ap length c.as_slice.ensures.value ∙ stands_made_length c.args.bounds.now c.args.costs.now c.in_ok-stands.stands.items (length columns - m) c.in_ok-stands.ensures in
    let d = c.requires.as_many_bounds in
    omega arith

pub returns-in_err-values-clause-follows : goal.returns-in_err-values-clause-follows
returns-in_err-values-clause-follows c = λ s h.
    let p = err_from_is_err_and c.from_residual-in_err-values.result c.from_residual-in_err-values.ensures.1 in
    let columns = c.args.columns.now in
    let bounds = c.args.bounds.now in
    let costs = c.args.costs.now in
    let ss = c.in_ok-stands.stands.items in
    let m = c.row_count-rows.result in
    script_refused columns bounds costs s c.as_slice-2.result.now c.from_residual-in_err-values.result p.0 c.in_err-values.field-0.0
    (script_is columns bounds costs ss c.as_slice-2.result.now s (stands_made columns bounds costs ss m c.requires c.row_count-rows.ensures c.in_ok-stands.ensures) h
    (sums_made columns bounds ss c.as_slice.result.now c.in_ok-sums.sums.items c.as_slice-2.result.now m c.row_count-rows.ensures c.as_slice.ensures.value c.as_slice-2.ensures.value c.in_ok-sums.ensures))
    p.1 p.2 c.in_err-values.ensures

pub returns-clause-basis : goal.returns-clause-basis
returns-clause-basis c =
    let columns = c.args.columns.now in
    let bounds = c.args.bounds.now in
    let costs = c.args.costs.now in
    let ss = c.in_ok-stands.stands.items in
    let m = c.row_count-rows.result in
    basis_is columns bounds costs c.from_vec.result c.from_vec-2.result
    (c.from_vec.ensures ∙ head_made columns c.in_ok-row_variables.field-0.items m c.row_count-rows.ensures c.in_ok-row_variables.ensures)
    (c.from_vec-2.ensures ∙ stands_made columns bounds costs ss m c.requires c.row_count-rows.ensures c.in_ok-stands.ensures)

pub returns-clause-solved : goal.returns-clause-solved
returns-clause-solved c =
    let columns = c.args.columns.now in
    let bounds = c.args.bounds.now in
    let costs = c.args.costs.now in
    let m = c.row_count-rows.result in
    let st : State = record { head = c.from_vec.result; stands = c.from_vec-2.result; values = c.values.inside.items.items; reduced = c.from_vec-3.result; weights = c.from_vec-4.result; pivots = 0 } in
    solved_is columns bounds costs st c.as_slice-2.result.now c.requires (returns-clause-basis c)
    (c.from_vec-3.ensures ∙ c.in_ok-from_slice.ensures.items)
    (sums_made columns bounds c.from_vec-2.result c.as_slice.result.now c.in_ok-sums.sums.items c.as_slice-2.result.now m c.row_count-rows.ensures (c.as_slice.ensures.value ∙ sym c.from_vec-2.ensures) c.as_slice-2.ensures.value c.in_ok-sums.ensures)
    (c.in_ok-values.ensures ∙ ap (λ xs. Ok xs) (sym c.values.view_is))

pub returns-clause-follows : goal.returns-clause-follows
returns-clause-follows c = λ s h.
    let columns = c.args.columns.now in
    let bounds = c.args.bounds.now in
    let costs = c.args.costs.now in
    let ss = c.in_ok-stands.stands.items in
    let m = c.row_count-rows.result in
    script_fits columns bounds costs s c.as_slice-2.result.now c.in_ok-values.values
    (script_is columns bounds costs ss c.as_slice-2.result.now s (stands_made columns bounds costs ss m c.requires c.row_count-rows.ensures c.in_ok-stands.ensures) h
    (sums_made columns bounds ss c.as_slice.result.now c.in_ok-sums.sums.items c.as_slice-2.result.now m c.row_count-rows.ensures c.as_slice.ensures.value c.as_slice-2.ensures.value c.in_ok-sums.ensures))
    c.in_ok-values.ensures
