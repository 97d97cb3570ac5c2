use Rattle.std.proofs.Common.{List, length, sym, ap, ◌∙◌, subst, arith}
use Rattle.pami_frac.specs.Signs.{is_zero}
use Rattle.pami_frac.proofs.Outcomes.{not_zero_by_test}
use Rattle.pami_state.proofs.Formed.{variables_are}
use Rattle.pami_theory.proofs.Members.{has_from}
use Rattle.pami_minor.specs.declared.kept.Kept.{Kept}
use Rattle.pami_minor.specs.declared.kept.Picked.{Picked}
use Rattle.pami_minor.specs.Fresh.{IsPickedRow}
use Rattle.pami_minor.specs.Picks.{HasRowAt}
use Rattle.pami_minor.specs.Behind.{FollowsReach}
use Rattle.pami_form.specs.FormOf.{form_of}
use Rattle.pami_minor.proofs.Nth.{nth_row, has_nth, kept_at, row_low, pivot_low}
use Rattle.pami_minor.proofs.ReachReady.{step_here, entering_low, slice_low, pivot_here, pivot_nonzero, before_reach}
use Rattle.pami_minor.proofs.minor.Minor.reach_row.Goals as goal

pub entry_of-pivot-requires : goal.entry_of-pivot-requires
entry_of-pivot-requires c =
    let t = c.requires.turn in
    let h = t.5 in
    slice_low (form_of c.args.form.now) t.0 t.1 t.2 t.3 t.4 c.args.self.now c.last_step-step.result.now h
    (step_here (form_of c.args.form.now) t.0 t.1 t.2 t.3 t.4 c.args.self.now c.last_step-step.result.now h
    (c.last_step-step.ensures h.step.0 h.step.1 h.step.2))

pub index_of-requires : goal.index_of-requires
index_of-requires c =
    let t = c.requires.turn in
    subst (λ (ks : List Kept). HasRowAt c.args.place ks) (sym c.as_slice.ensures.value)
    (has_nth (form_of c.args.form.now) t.0 t.1 t.2 t.3 t.4 c.args.place c.args.self.now t.5 t.6)

pub reach_at-requires-clause-entering : goal.reach_at-requires-clause-entering
reach_at-requires-clause-entering c =
    let t = c.requires.turn in
    let h = t.5 in
    let low = entering_low (form_of c.args.form.now) t.0 t.1 t.2 c.last_step-step.result.now h.pivot
    (step_here (form_of c.args.form.now) t.0 t.1 t.2 t.3 t.4 c.args.self.now c.last_step-step.result.now h
    (c.last_step-step.ensures h.step.0 h.step.1 h.step.2)) in
    let n = variables_are c.args.form.now.columns c.args.form.now.bounds c.args.form.now.costs c.args.form.now.kept.form in
    omega (arith, low, n)

pub reach_at-requires-clause-rows : goal.reach_at-requires-clause-rows
reach_at-requires-clause-rows c =
    let t = c.requires.turn in
    let f = form_of c.args.form.now in
    let s = nth_row f t.0 t.1 t.2 t.3 t.4 c.args.place c.args.self.now t.5 t.6 in
    let row = kept_at f t.0 t.1 t.2 t.3 t.4 c.args.place c.args.self.now c.as_slice.result.now c.index_of.result c.index-row.result.now t.5 t.6
    c.as_slice.ensures.value c.index_of.ensures c.index-row.ensures in
    ap length row.rho ∙ t.5.reached.fresh.row_by_row t.6.0.place (row_low f t.0 t.1 t.2 t.3 t.4 c.args.place c.args.self.now t.5 t.6) ∙ sym c.args.form.now.kept.tall

pub reach_at-requires-clause-flips : goal.reach_at-requires-clause-flips
reach_at-requires-clause-flips c =
    let t = c.requires.turn in
    let h = t.5 in
    (step_here (form_of c.args.form.now) t.0 t.1 t.2 t.3 t.4 c.args.self.now c.last_step-step.result.now h
    (c.last_step-step.ensures h.step.0 h.step.1 h.step.2)).flips_by_row ∙ sym c.args.form.now.kept.tall

pub reach_at-requires-clause-pivot_row : goal.reach_at-requires-clause-pivot_row
reach_at-requires-clause-pivot_row c =
    let t = c.requires.turn in
    let f = form_of c.args.form.now in
    ap (λ (p : Picked). length p.at.rho) (c.picked_row-picked.ensures t.5.picked.0 t.5.picked.1) ∙ ap length t.5.picked.2.rho
    ∙ t.5.reached.fresh.row_by_row t.1.row.place (pivot_low f t.0 t.1 t.2 t.5.pivot) ∙ sym c.args.form.now.kept.tall

pub reach_at-requires-clause-nonzero : goal.reach_at-requires-clause-nonzero
reach_at-requires-clause-nonzero c =
    let t = c.requires.turn in
    let h = t.5 in
    ap is_zero (c.entry_of-pivot.ensures ∙ pivot_here (form_of c.args.form.now) t.0 t.1 t.2 t.3 t.4 c.args.self.now c.last_step-step.result.now h
    (step_here (form_of c.args.form.now) t.0 t.1 t.2 t.3 t.4 c.args.self.now c.last_step-step.result.now h
    (c.last_step-step.ensures h.step.0 h.step.1 h.step.2)))
    ∙ not_zero_by_test _ (pivot_nonzero (form_of c.args.form.now) t.0 t.1 t.2 h.pivot)

pub returns : goal.returns
returns c = record {
  reach = λ limit m next i j h o.
      let f = form_of c.args.form.now in
      let st = step_here f limit m next i j c.args.self.now c.last_step-step.result.now h (c.last_step-step.ensures h.step.0 h.step.1 h.step.2) in
      let row = kept_at f limit m next i j c.args.place c.args.self.now c.as_slice.result.now c.index_of.result c.index-row.result.now h o
      c.as_slice.ensures.value c.index_of.ensures c.index-row.ensures in
      subst (λ p. FollowsReach f m next p c.reach_at.result) (row.known.place ∙ o.3)
      (c.reach_at.ensures.fresh limit m next
      (before_reach f limit m next i j c.args.self.now c.last_step-step.result.now c.entry_of-pivot.result c.picked_row-picked.result.now c.index-row.result.now o.0
      h st (c.entry_of-pivot.ensures ∙ pivot_here f limit m next i j c.args.self.now c.last_step-step.result.now h st)
      (subst (IsPickedRow m.reached m.row) (sym (c.picked_row-picked.ensures h.picked.0 h.picked.1)) h.picked.2)
      (has_from next.rows o.0 (i, o.1, o.2)) row));
}
