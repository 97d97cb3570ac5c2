use Rattle.std.proofs.Common.{◌+◌, [], ◌∷◌, length, drop, replicate, true, sym, ◌∙◌, subst}
use Rattle.pami_factoring.specs.Solve.{lowered}
use Rattle.pami_lu.specs.Stored.{full_steps, IsStored}
use Rattle.pami_factor.proofs.Positions.{at_step}
use Rattle.pami_factor.proofs.Rises.{IsLowering, lowering_next}
use Rattle.pami_factor.proofs.forward.go_down.Goals as goal

pub loop-step-preserved : goal.loop-step-preserved
loop-step-preserved c =
    let m = length c.args.right.now in
    let ss = c.args.steps.now in
    let i = c.loop-step.step-index in
    let s = c.step-item.result in
    let now = c.loop-step.right in
    let start = lowered (replicate m true) (full_steps [] ss) c.args.right.now in
    let g : IsLowering m start (s ∷ drop (i + 1) ss) now = subst (λ zs. IsLowering m start zs now) (at_step i ss s c.loop-step-test.true c.step-item.is) c.loop-step.invariant in
    lowering_next m start s (drop (i + 1) ss) now c.take_multiples.new.right g
    (c.in_ok-take_multiples.ensures.script g.rows g.places (g.before.down ∙ sym g.as_many) (subst (λ n. IsStored n g.rows g.places s) (sym g.as_many) g.before.stored.0))
    c.in_ok-take_multiples.ensures.as_many
