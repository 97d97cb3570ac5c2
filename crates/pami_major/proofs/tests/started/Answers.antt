use Rattle.std.proofs.Common.{sym, subst}
use Rattle.pami_theory.specs.Basis.{IsBasis}
use Rattle.pami_theory.proofs.Starts.{start_is_basis}
use Rattle.pami_state.specs.Columns.{form_by, IsForm}
use Rattle.pami_state.proofs.Formed.{has_bounds}
use Rattle.pami_state.proofs.Known.{stands_by_bounds}
use Rattle.pami_major.proofs.Starts.{lent_kept, starts_ready}
use Rattle.pami_major.proofs.tests.started.Goals as goal

pub dual_feasible-requires-clause-stands : goal.dual_feasible-requires-clause-stands
dual_feasible-requires-clause-stands c =
    let f = c.args.form.now in
    let cs = c.as_slice.result.now in
    let bs = c.as_slice-bounds.result.now in
    let ds = c.as_slice-2.result.now in
    let kept : IsForm cs bs ds = lent_kept f.columns cs f.bounds bs f.costs ds c.as_slice.ensures c.as_slice-bounds.ensures c.as_slice-2.ensures f.kept.form in
    stands_by_bounds (form_by cs bs ds) bs c.in-Ok.state (has_bounds cs bs ds kept) (subst (IsBasis (form_by cs bs ds)) (sym c.in-Ok.ensures.basis) (start_is_basis (form_by cs bs ds)))

pub returns : goal.returns
returns c =
    let f = c.args.form.now in
    let cs = c.as_slice.result.now in
    let bs = c.as_slice-bounds.result.now in
    let ds = c.as_slice-2.result.now in
    starts_ready f 9 cs bs ds c.as_slice.ensures c.as_slice-bounds.ensures c.as_slice-2.ensures c.in-Ok.state c.in-Ok.ensures.basis c.in-Ok.ensures.solved c.in-Ok.ensures.weights c.in-Ok.ensures.pivots
    ((c.dual_feasible.ensures.feasible (form_by cs bs ds)
    (has_bounds cs bs ds (lent_kept f.columns cs f.bounds bs f.costs ds c.as_slice.ensures c.as_slice-bounds.ensures c.as_slice-2.ensures f.kept.form)) c.in-Ok.ensures.solved).0 c.if-not-dual_feasible.false)
