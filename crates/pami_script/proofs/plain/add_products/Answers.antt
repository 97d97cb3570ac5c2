use Rattle.std.proofs.Common.{◌∙◌, sym, subst, ap, length, ◌<◌, Err}
use Rattle.std.proofs.lemmas.Result.{err_from_is_err_and}
use Rattle.pami_linear.specs.Lists.{get}
use Rattle.pami_script.specs.Script.{add_product, add_dot}
use Rattle.pami_script.proofs.Loops.{each_goes, each_stops, get_is}
use Rattle.pami_script.proofs.plain.add_products.Goals as goal

pub returns-in_err-total : goal.returns-in_err-total
returns-in_err-total c =
    let p = err_from_is_err_and c.from_residual.result c.from_residual.ensures.1 in
    let n = length c.args.us.now in
    let x = get_is c.args.us.now c.loop-i.i c.index-us-i.result c.loop-i-test.true c.index-us-i.is in
    let y = get_is c.args.vs.now c.loop-i.i c.index-vs-i.result (subst (λ k. c.loop-i.i < k) c.requires c.loop-i-test.true) c.index-vs-i.is in
    p.1 ∙ ap Err p.2
    ∙ each_stops (add_dot n (get c.args.us.now) (get c.args.vs.now) c.args.t) n c.loop-i.i (λ i t. add_product t (get c.args.us.now i) (get c.args.vs.now i)) c.loop-i.total c.in_err-total.field-0.0 c.loop-i.invariant c.loop-i-test.true
    (sym (c.in_err-total.ensures ∙ ap (λ z. add_product c.loop-i.total z c.index-vs-i.result) x ∙ ap (add_product c.loop-i.total (get c.args.us.now c.loop-i.i)) y))

pub loop-i-preserved : goal.loop-i-preserved
loop-i-preserved c =
    let n = length c.args.us.now in
    let x = get_is c.args.us.now c.loop-i.i c.index-us-i.result c.loop-i-test.true c.index-us-i.is in
    let y = get_is c.args.vs.now c.loop-i.i c.index-vs-i.result (subst (λ k. c.loop-i.i < k) c.requires c.loop-i-test.true) c.index-vs-i.is in
    each_goes (add_dot n (get c.args.us.now) (get c.args.vs.now) c.args.t) n c.loop-i.i (λ i t. add_product t (get c.args.us.now i) (get c.args.vs.now i)) c.loop-i.total c.in_ok-total.total c.loop-i.invariant c.loop-i-test.true
    (sym (c.in_ok-total.ensures ∙ ap (λ z. add_product c.loop-i.total z c.index-vs-i.result) x ∙ ap (add_product c.loop-i.total (get c.args.us.now c.loop-i.i)) y))
