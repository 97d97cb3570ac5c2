use Rattle.std.proofs.Common.{length, ap, ◌∙◌, subst, ◌≤◌}
use Rattle.pami_state.proofs.Values.{standing_first, value_put, values_listed, head_within}
use Rattle.pami_state.proofs.state.State.values.Goals as goal

pub loop-p-init : goal.loop-p-init
loop-p-init c =
    standing_first c.args.bounds.now c.args.self.now c.as_slice.result.now c.in_ok-list.list.items c.as_slice.ensures c.requires.stands c.in_ok-list.ensures

pub loop-p-preserved : goal.loop-p-preserved
loop-p-preserved c =
    let hs = c.as_slice-head.result.now in
    let list = c.loop-p.list.items in
    value_put c.args.bounds.now c.args.self.now c.loop-p.p list hs c.as_slice-values.result.now c.index-values-p.result
    c.loop-p.invariant c.as_slice-head.ensures c.as_slice-values.ensures c.requires.values c.loop-p-test.true
    (head_within c.args.bounds.now c.args.self.now hs c.loop-p.p (length list) c.requires.basis c.requires.stands
    c.loop-p.invariant.by_variable c.as_slice-head.ensures c.loop-p-test.true)
    c.index-values-p.is

pub returns-clause-by_variable : goal.returns-clause-by_variable
returns-clause-by_variable c = ap length c.from_vec.ensures ∙ c.loop-p.invariant.by_variable

pub returns-clause-solved : goal.returns-clause-solved
returns-clause-solved c = λ f h a.
    c.from_vec.ensures
    ∙ values_listed f c.args.bounds.now c.args.self.now c.loop-p.p c.loop-p.list.items h c.requires.basis a
    (subst (λ n. n ≤ c.loop-p.p) (ap length c.as_slice-head.ensures) c.loop-p-test.false) c.loop-p.invariant
