use Rattle.std.proofs.Common.{◌<◌, ◌+◌, ◌-◌, ◌*◌, ◌++◌, List, length, sym, ap, ◌∙◌, arith}
use Rattle.std.specs.List.{range_with_len}
use Rattle.std.specs.Global.{Vec}
use Rattle.std.proofs.lemmas.List.{get_or_default}
use Rattle.pami_linear.specs.Lists.{get}
use Rattle.pami_frac.specs.declared.list.Entry.{Entry}
use Rattle.pami_theory.specs.Form.{zero_f}
use Rattle.pami_minor.specs.Costs.{costs, had_cost}
use Rattle.pami_minor.proofs.Shifting.{cost_kept, cost_passed}
use Rattle.pami_minor.proofs.costs.slice_costs.Goals as goal
use Rattle.pami_minor.proofs.costs.slice_costs.Goals.{then-had_cost+in_ok-push, else-had_cost}

pub loop-v-preserved : goal.loop-v-preserved
loop-v-preserved c =
    let first = 64 * c.args.slice in
    let last = 64 * c.args.slice + c.slice_size.result in
    let p = had_cost c.args.stands.now c.args.step.now in
    let g = get c.args.reduced.now in
    let all = costs p g (range_with_len first (last - first)) in
    let within = c.slice_size.ensures.within in
    let test = c.loop-v-test.true in
    let low : c.loop-v.v < length c.args.reduced.now = omega (arith, within, test) in
    elim c.if-had_cost.branch [
      | then-had_cost+in_ok-push w ↦
          cost_kept p g all c.loop-v.kept.items c.loop-v.v last w.index-reduced-v.result c.loop-v.invariant c.loop-v-test.true
          (sym c.had_cost.ensures ∙ w.if-had_cost.true)
          (w.index-reduced-v.is ∙ get_or_default c.args.reduced.now c.loop-v.v w.index-reduced-v.result zero_f low)
          ∙ ap (λ (es : List Entry). es ++ costs p g (range_with_len (c.loop-v.v + 1) (last - (c.loop-v.v + 1))))
          (sym (ap (λ (x : Vec Entry). x.items) w.kept-is ∙ w.in_ok-push.ensures.items))
      | else-had_cost w ↦
          cost_passed p g all c.loop-v.kept.items c.loop-v.v last c.loop-v.invariant c.loop-v-test.true (sym c.had_cost.ensures ∙ w.if-had_cost.false)
          ∙ ap (λ (es : List Entry). es ++ costs p g (range_with_len (c.loop-v.v + 1) (last - (c.loop-v.v + 1))))
          (sym (ap (λ (x : Vec Entry). x.items) w.kept-is))
    ]
