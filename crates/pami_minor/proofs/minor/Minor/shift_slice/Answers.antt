use Rattle.std.proofs.Common.{◌<◌, [], length, sym, ap, ◌∙◌, subst, arith}
use Rattle.std.proofs.lemmas.List.{get_or_default}
use Rattle.pami_linear.specs.Lists.{get}
use Rattle.pami_theory.specs.declared.words.Violation.{Violation}
use Rattle.pami_method.specs.Scripts.{slice_variables}
use Rattle.pami_deferral.proofs.Chains.{pivot_links, next_basis}
use Rattle.pami_minor.specs.Costs.{costs, had_cost}
use Rattle.pami_minor.proofs.ReachReady.{step_here, alpha_count}
use Rattle.pami_minor.proofs.ShiftFollows.{before_shift}
use Rattle.pami_minor.proofs.minor.Minor.shift_slice.Goals as goal

pub slice_costs-requires-clause-same : goal.slice_costs-requires-clause-same
slice_costs-requires-clause-same c =
    let t = c.requires.turn in
    let h = t.5 in
    ap length c.as_slice.ensures.value ∙ ap length h.stands ∙ (next_basis t.0 t.2 t.3 (pivot_links t.0 t.1 t.2 t.3 h.pivot)).variables_stand
    ∙ sym h.shifted.by_variable ∙ sym (ap length c.as_slice-reduced.ensures.value)

pub index-alpha-requires : goal.index-alpha-requires
index-alpha-requires c =
    let t = c.requires.turn in
    let n = alpha_count t.0 t.1 t.2 t.3 t.4 c.args.slice c.args.self.now t.5 in
    let k = c.args.self.now.alpha.ok.0 in
    let l = t.6 in
    omega (arith, n, k, l)

pub returns : goal.returns
returns c = record {
  shift = λ f limit m next i h.
      let t = c.requires.turn in
      let st = step_here f limit m next i c.args.slice c.args.self.now c.last_step-step.result.now h (c.last_step-step.ensures h.step.0 h.step.1 h.step.2) in
      let count = alpha_count f limit m next i c.args.slice c.args.self.now h in
      let other = alpha_count t.0 t.1 t.2 t.3 t.4 c.args.slice c.args.self.now t.5 in
      let low : c.args.slice < length c.args.self.now.alpha.items = (let l = t.6 in omega (arith, other, l)) in
      c.shift_at.ensures.fresh f limit m next c.args.slice
      (before_shift f limit m next i c.args.slice c.args.self.now c.last_step-step.result.now c.picked_side-side.result c.as_slice-2.result.now
      c.as_slice-3.result.now h st
      (c.picked_side-side.ensures h.picked.0 h.picked.1 ∙ ap (λ (v : Violation). v.side) h.picked.2.violation)
      (subst (λ n. c.args.slice < n) count low)
      (c.as_slice-2.ensures.value ∙ c.in_ok-costs.ensures
      ∙ ap (λ ss. costs (had_cost ss c.last_step-step.result.now) (get c.as_slice-reduced.result.now)
      (slice_variables (length c.as_slice-reduced.result.now) c.args.slice)) c.as_slice.ensures.value
      ∙ ap (λ xs. costs (had_cost c.args.self.now.stands.items c.last_step-step.result.now) (get xs) (slice_variables (length xs) c.args.slice))
      c.as_slice-reduced.ensures.value
      ∙ ap (λ n. costs (had_cost c.args.self.now.stands.items c.last_step-step.result.now) (get c.args.self.now.reduced.items)
      (slice_variables n c.args.slice)) h.shifted.by_variable)
      (c.as_slice-3.ensures ∙ c.index-alpha.ensures ∙ get_or_default c.args.self.now.alpha.items c.args.slice c.index-alpha.result.now [] low));
}
