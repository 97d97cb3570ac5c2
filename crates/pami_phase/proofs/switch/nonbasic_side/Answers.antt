use Rattle.std.proofs.Common.{◌≡◌, ◌∙◌, ◌+◌, ◌<◌, List, length, Result, Err, sym, ap, subst, arith}
use Rattle.std.proofs.lemmas.Result.{err_from_is_err_and}
use Rattle.pami_algebra.specs.Fraction.{Fraction}
use Rattle.pami_frac.specs.Answers.{FollowsBy}
use Rattle.pami_frac.specs.declared.arithmetic.Refused.{Refused}
use Rattle.pami_frac.specs.declared.fault.Fault.{Fault}
use Rattle.pami_frac.specs.declared.list.Bounds.{Bounds}
use Rattle.pami_state.specs.State.{basis_of}
use Rattle.pami_state.specs.Columns.{bounds_form}
use Rattle.pami_state.proofs.Formed.{has_bounds, basis_by_bounds, variables_are}
use Rattle.pami_theory.specs.Basis.{IsBasis}
use Rattle.pami_method.specs.Scripts.{zeros, is_nonbasic}
use Rattle.pami_state.proofs.Signed.{stand_read}
use Rattle.pami_form.specs.FormOf.{form_of}
use Rattle.pami_theory.specs.declared.words.Stand.{Stand}
use Rattle.pami_theory.specs.declared.words.Stand.TheVariants as stands
use Rattle.std.proofs.Common.{slice_index_or}
use Rattle.pami_state.proofs.Known.{stands_by_bounds}
use Rattle.pami_phase.specs.Switches.{side_script}
use Rattle.pami_phase.proofs.Sides.{IsOnTheWay, dense_zeros, way_begins, way_goes, way_skips, way_faults, column_here}
use Rattle.pami_phase.proofs.switch.nonbasic_side.Goals.{then-is_nonbasic+in_ok-rows-2, else-is_nonbasic}
use Rattle.pami_phase.proofs.switch.nonbasic_side.Goals as goal

pub loop-v-init : goal.loop-v-init
loop-v-init c =
    let form = c.args.form.now in
    way_begins (form_of form) (basis_of c.args.state.now) (length form.columns) c.in_ok-rows.rows (sym (variables_are form.columns form.bounds form.costs form.kept.form))
    (c.in_ok-rows.ensures ∙ dense_zeros form.rows ∙ ap zeros form.kept.tall)

pub value_of-value-requires-clause-basis : goal.value_of-value-requires-clause-basis
value_of-value-requires-clause-basis c =
    let form = c.args.form.now in
    let st = c.args.state.now in
    subst (λ (bs : List Bounds). IsBasis (bounds_form (length st.head) bs) (basis_of st)) (sym c.as_slice-bounds.ensures)
    (basis_by_bounds (form_of form) (basis_of st) form.bounds (has_bounds form.columns form.bounds form.costs form.kept.form) c.requires.basis)

pub returns-in_err-rows-2 : goal.returns-in_err-rows-2
returns-in_err-rows-2 c = λ t fresh.
    let p = err_from_is_err_and c.from_residual-in_err-rows-2.result c.from_residual-in_err-rows-2.ensures.1 in
    let form = c.args.form.now in
    let st = c.args.state.now in
    let m : length c.as_slice-column-items.result.now ≡ length form.columns = ap length c.as_slice-column-items.ensures in
    let test = c.loop-v-test.true in
    let l : c.loop-v.v < length form.columns = omega arith in
    subst (λ (r : Result (List Fraction) (Fault Refused)). FollowsBy (λ v. v) (side_script (form_of form) (basis_of st) t) r) (sym (p.1 ∙ ap Err p.2))
    (way_faults (form_of form) (basis_of st) (length form.columns) c.loop-v.v c.loop-v.rows c.value_of-value.result c.column-item.result c.in_err-rows-2.field-0.0 l c.loop-v.invariant
    (column_here form.columns form.bounds c.as_slice-bounds.result.now form.costs st c.loop-v.v c.value_of-value.result c.column-item.result stands.Basic form.kept.form l c.as_slice-bounds.ensures
    (stands_by_bounds (form_of form) form.bounds st (has_bounds form.columns form.bounds form.costs form.kept.form) c.requires.basis ∙ form.kept.form.as_many_bounds)
    (c.column-item.is ∙ ap (λ (cs : List (List Fraction)). slice_index_or cs c.loop-v.v c.column-item.result) c.as_slice-column-items.ensures)
    (ap (λ (ss : List Stand). is_nonbasic (slice_index_or ss c.loop-v.v stands.Basic)) (sym c.as_slice-stands.ensures) ∙ sym c.is_nonbasic.ensures ∙ c.if-is_nonbasic.true) c.value_of-value.ensures.nonbasic)
    c.in_err-rows-2.ensures t fresh)

pub loop-v-preserved : goal.loop-v-preserved
loop-v-preserved c =
    let form = c.args.form.now in
    let st = c.args.state.now in
    let f = form_of form in
    let b = basis_of st in
    let m : length c.as_slice-column-items.result.now ≡ length form.columns = ap length c.as_slice-column-items.ensures in
    let test = c.loop-v-test.true in
    let l : c.loop-v.v < length form.columns = omega arith in
    let many = stands_by_bounds f form.bounds st (has_bounds form.columns form.bounds form.costs form.kept.form) c.requires.basis ∙ form.kept.form.as_many_bounds in
    let stand = ap (λ (ss : List Stand). is_nonbasic (slice_index_or ss c.loop-v.v stands.Basic)) (sym c.as_slice-stands.ensures) ∙ sym c.is_nonbasic.ensures in
    elim c.if-is_nonbasic.branch [
      | then-is_nonbasic+in_ok-rows-2 w ↦
          subst (λ (rows : List Fraction). IsOnTheWay f b (length form.columns) (c.loop-v.v + 1) rows) (sym w.rows-is)
          (way_goes f b (length form.columns) c.loop-v.v c.loop-v.rows w.in_ok-rows-2.rows w.value_of-value.result c.column-item.result l c.loop-v.invariant
          (column_here form.columns form.bounds c.as_slice-bounds.result.now form.costs st c.loop-v.v w.value_of-value.result c.column-item.result stands.Basic form.kept.form l c.as_slice-bounds.ensures many
          (c.column-item.is ∙ ap (λ (cs : List (List Fraction)). slice_index_or cs c.loop-v.v c.column-item.result) c.as_slice-column-items.ensures)
          (stand ∙ w.if-is_nonbasic.true) w.value_of-value.ensures.nonbasic)
          w.in_ok-rows-2.ensures)
      | else-is_nonbasic w ↦
          subst (λ (rows : List Fraction). IsOnTheWay f b (length form.columns) (c.loop-v.v + 1) rows) (sym w.rows-is)
          (way_skips f b (length form.columns) c.loop-v.v c.loop-v.rows l
          (ap is_nonbasic (stand_read st.stands c.loop-v.v stands.Basic (subst (λ k. c.loop-v.v < k) (sym many) l)) ∙ stand ∙ w.if-is_nonbasic.false)
          c.loop-v.invariant)
    ]
