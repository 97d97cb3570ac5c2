use Rattle.std.proofs.Common.{◌≡◌, ◌<◌, ◌++◌, List, length, take, drop, refl, sym, ap, ◌∙◌, subst, arith}
use Rattle.std.specs.List.{All}
use Rattle.pami_algebra.specs.Operations.{neg_f}
use Rattle.pami_frac.specs.declared.list.Entry.{Entry}
use Rattle.pami_theory.specs.Form.{zero_f}
use Rattle.pami_theory.specs.Ratio.{toward}
use Rattle.pami_theory.specs.declared.words.Violation.{Violation}
use Rattle.pami_minor.specs.Costs.{put_all, cost_in}
use Rattle.pami_minor.proofs.ReachReady.{step_here, entering_low}
use Rattle.pami_minor.proofs.CostsBehind.{put_length, in_length, leaving_low, costs_low, shifted_more, written}
use Rattle.pami_minor.proofs.minor.Minor.commit_shift.Goals as goal

pub put_costs-requires : goal.put_costs-requires
put_costs-requires c =
    let t = c.requires.turn in
    subst (λ (es : List Entry). All (λ (e : Entry). e.place < length c.as_mut_slice.result.now) es) (sym c.as_slice.ensures.value)
    (costs_low t.0 t.2 t.3 c.args.slice (length c.as_mut_slice.result.now) c.args.reduced.items t.7 t.6
    (sym (ap length c.as_mut_slice.ensures.value ∙ t.5.shifted.by_variable)))

pub exchange_costs-requires-clause-entering : goal.exchange_costs-requires-clause-entering
exchange_costs-requires-clause-entering c =
    let t = c.requires.turn in
    let h = t.5 in
    let old = c.args.self.now.reduced in
    let a = c.put_costs.ensures ∙ ap (λ es. put_all es c.as_mut_slice.result.now) c.as_slice.ensures.value ∙ ap (put_all c.args.reduced.items) c.as_mut_slice.ensures.value in
    let long = ap length a ∙ put_length c.args.reduced.items old.items in
    let read = ap length (c.as_mut_slice-2.ensures.value ∙ written old.len c.put_costs.new.reduced old.items old.ok.0 long) in
    let low = entering_low t.0 t.1 t.2 t.3 c.last_step-step.result.now h.pivot
    (step_here t.0 t.1 t.2 t.3 t.4 c.args.slice c.args.self.now c.last_step-step.result.now h (c.last_step-step.ensures h.step.0 h.step.1 h.step.2)) in
    let many = h.shifted.by_variable in
    omega (arith, low, many, read, long)

pub exchange_costs-requires-clause-leaving : goal.exchange_costs-requires-clause-leaving
exchange_costs-requires-clause-leaving c =
    let t = c.requires.turn in
    let h = t.5 in
    let old = c.args.self.now.reduced in
    let a = c.put_costs.ensures ∙ ap (λ es. put_all es c.as_mut_slice.result.now) c.as_slice.ensures.value ∙ ap (put_all c.args.reduced.items) c.as_mut_slice.ensures.value in
    let long = ap length a ∙ put_length c.args.reduced.items old.items in
    let read = ap length (c.as_mut_slice-2.ensures.value ∙ written old.len c.put_costs.new.reduced old.items old.ok.0 long) in
    let low = leaving_low t.0 t.1 t.2 t.3 t.4 c.args.slice c.args.self.now c.last_step-step.result.now h
    (step_here t.0 t.1 t.2 t.3 t.4 c.args.slice c.args.self.now c.last_step-step.result.now h (c.last_step-step.ensures h.step.0 h.step.1 h.step.2)) in
    let many = h.shifted.by_variable in
    omega (arith, low, many, read, long)

pub returns : goal.returns
returns c = record {
  shifted = λ f limit m next i h e.
      let old = c.args.self.now.reduced in
      let slice = c.args.slice in
      let last = c.last_step-step.result.now in
      let st = step_here f limit m next i slice c.args.self.now last h (c.last_step-step.ensures h.step.0 h.step.1 h.step.2) in
      let a = c.put_costs.ensures ∙ ap (λ es. put_all es c.as_mut_slice.result.now) c.as_slice.ensures.value ∙ ap (put_all c.args.reduced.items) c.as_mut_slice.ensures.value in
      let long = ap length a ∙ put_length c.args.reduced.items old.items in
      let inner = written old.len c.put_costs.new.reduced old.items old.ok.0 long in
      let b = c.exchange_costs.ensures
      ∙ ap (λ xs. cost_in slice last.leaving c.negate.result (cost_in slice last.entering zero_f xs)) (c.as_mut_slice-2.ensures.value ∙ inner ∙ a) in
      let b_long = ap length b ∙ in_length slice last.leaving c.negate.result (cost_in slice last.entering zero_f (put_all c.args.reduced.items old.items))
      ∙ in_length slice last.entering zero_f (put_all c.args.reduced.items old.items) ∙ put_length c.args.reduced.items old.items in
      let inner_long : length (take old.len (c.put_costs.new.reduced ++ drop (length c.put_costs.new.reduced) old.items)) ≡ length old.items = ap length inner ∙ long in
      let outer = written old.len c.exchange_costs.new.reduced (take old.len (c.put_costs.new.reduced ++ drop (length c.put_costs.new.reduced) old.items))
      (old.ok.0 ∙ sym inner_long) (b_long ∙ sym inner_long) in
      let side = c.picked_side-side.ensures h.picked.0 h.picked.1 ∙ ap (λ (v : Violation). v.side) h.picked.2.violation in
      let cost = c.negate.ensures ∙ ap neg_f (c.toward.ensures ∙ ap (λ s. toward s last.tau) side ∙ ap (toward m.row.violation.side) st.tau) in
      record {
        reached = h.reached;
        pivot = h.pivot;
        head = h.head;
        stands = h.stands;
        limited = record { count_is = h.limited.count_is; limit_is = h.limited.limit_is; most = h.limited.most; few = h.limited.few };
        within = h.within;
        reached_rows = h.reached_rows;
        other_rows = h.other_rows;
        remaining = h.remaining;
        shifted = shifted_more f limit m next i slice c.args.self.now _ c.args.reduced.items c.negate.result h e cost
            (outer ∙ b ∙ ap (λ q. cost_in slice q c.negate.result (cost_in slice last.entering zero_f (put_all c.args.reduced.items old.items))) st.leaving
            ∙ ap (λ q. cost_in slice m.step.leaving c.negate.result (cost_in slice q zero_f (put_all c.args.reduced.items old.items))) st.entering);
        picked = h.picked;
        priced = record { at = h.priced.at };
        step = h.step;
        room = record { nows = h.room.nows; dropped = h.room.dropped; remaining = h.room.remaining; steps = h.room.steps; slices = h.room.slices };
      };
  steps = refl;
  dropped = refl;
}
