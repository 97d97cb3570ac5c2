use Rattle.std.proofs.Common.{sym, ap, ◌∙◌, subst, arith, Err}
use Rattle.std.proofs.lemmas.Result.{err_from_is_err_and}
use Rattle.pami_frac.specs.Answers.{FollowsBy}
use Rattle.pami_factoring.specs.Factor.{elimination_script}
use Rattle.pami_dense.specs.declared.rest.Rest.{Rest}
use Rattle.pami_dense.proofs.Steps.{started, starts_whole, goes_on, stops}
use Rattle.pami_dense.proofs.elimination.eliminate_rows.Goals as goal

pub loop-k-init : goal.loop-k-init
loop-k-init c =
    let r : Rest = record { active = c.in_ok-active.active; places = c.in_ok-places.places; rows = c.args.rows } in (
      started c.len-m.result r c.new-steps.result.items (omega arith, c.in_ok-active.ensures, c.in_ok-places.ensures) c.new-steps.ensures.items,
      starts_whole c.len-m.result r (omega arith, c.in_ok-active.ensures, c.in_ok-places.ensures) c.requires.square,
      omega arith,
      omega arith,
    )

pub returns-in_err-taken : goal.returns-in_err-taken
returns-in_err-taken c =
    let p = err_from_is_err_and c.from_residual-in_err-taken.result c.from_residual-in_err-taken.ensures.1 in
    let start = elimination_script c.args.rows.items in
    subst (FollowsBy (λ ks. ks) start) (sym (p.1 ∙ ap Err p.2))
    (stops start c.len-m.result c.loop-k.k c.loop-k.rest c.loop-k.steps.items c.in_err-taken.field-0.0 c.loop-k-test.true
    c.loop-k.invariant.0 c.in_err-taken.ensures.script)

pub loop-k-preserved : goal.loop-k-preserved
loop-k-preserved c = (
  goes_on (elimination_script c.args.rows.items) c.len-m.result c.loop-k.k c.loop-k.rest c.in_ok-taken.taken c.loop-k.steps.items c.push.new.self.items
      c.loop-k-test.true c.loop-k.invariant.0 c.in_ok-taken.ensures.script c.in_ok-push.ensures.items,
  c.in_ok-taken.ensures.whole,
  c.in_ok-taken.ensures.count ∙ c.loop-k.invariant.2,
  c.loop-k.invariant.3,
)
