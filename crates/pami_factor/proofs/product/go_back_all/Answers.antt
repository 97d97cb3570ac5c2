use Rattle.std.proofs.Common.{◌≡◌, ◌-◌, ◌+◌, ◌∙◌, ap, sym, subst, arith, drop, Err, Ok}
use Rattle.std.proofs.lemmas.Result.{err_from_is_err_and}
use Rattle.pami_frac.specs.Answers.{BecomesBy}
use Rattle.pami_factoring.specs.Solve.{backward_transform_script}
use Rattle.pami_vec.specs.Pivots.{column_pivots}
use Rattle.pami_factor.proofs.BackPasses.{back_at, back_refused}
use Rattle.pami_factor.proofs.product.go_back_all.Goals as goal

pub returns-in_err-go_back-clause-script : goal.returns-in_err-go_back-clause-script
returns-in_err-go_back-clause-script c =
    let p = err_from_is_err_and c.from_residual.result c.from_residual.ensures.1 in
    let e : c.loop-k.k - 1 + 1 ≡ c.loop-k.k = omega arith in
    let ps = c.args.pivots.now in
    let r = c.in_err-go_back.field-0.0 in
    subst (BecomesBy (backward_transform_script (column_pivots ps) c.args.right.now) c.go_back.new.right) (sym (p.1 ∙ ap Err p.2))
    (back_refused (c.loop-k.k - 1) ps c.args.right.now r
    (back_at (c.loop-k.k - 1) ps c.index-pivots-k.result c.args.right.now c.loop-k.right (Err r) (omega arith) c.index-pivots-k.is
    (subst (λ z. backward_transform_script (column_pivots (drop z ps)) c.args.right.now ≡ Ok c.loop-k.right) (sym e) c.loop-k.invariant.0)
    c.in_err-go_back.ensures.script))
