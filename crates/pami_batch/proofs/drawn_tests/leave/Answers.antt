use Rattle.std.proofs.Common.{Option, Ok, ◌∙◌, subst}
use Rattle.pami_theory.specs.Form.{variables}
use Rattle.pami_form.specs.FormOf.{form_of}
use Rattle.pami_price.specs.Slices.{slices}
use Rattle.pami_vec.specs.declared.step.Step.{Step}
use Rattle.pami_minor.specs.Steps.{FollowsWalk}
use Rattle.pami_minor.proofs.Stepping.{given}
use Rattle.pami_batch.specs.Turns.{minor_at}
use Rattle.pami_batch.proofs.Pivoting.{has_next}
use Rattle.pami_batch.proofs.DrawnTurns.{rows_lent}
use Rattle.pami_batch.proofs.drawn_tests.leave.Goals as goal

pub walk_row-requires : goal.walk_row-requires
walk_row-requires c =
    let t = c.requires.turn in
    record { turn = (t.0, t.1, t.2, (c.in_ok-price_row.ensures.prices t.0 t.1 t.2 t.3 t.4).1) }

pub commit_walk-requires : goal.commit_walk-requires
commit_walk-requires c =
    let t = c.requires.turn in
    let f = form_of c.args.form.now in
    let a = c.in_ok-price_row.ensures.prices t.0 t.1 t.2 t.3 t.4 in
    let w = subst (λ (z : Option Step). FollowsWalk f t.1.basis t.1.fresh t.2.place t.2.violation (Ok (c.in_ok-walk.walk, z))) c.in-Some.is
    (c.in_ok-walk.ensures.walk t.0 t.1 t.2 a.1).1 in
    record { turn = (f, t.0, t.1, t.2, a.1, w) }

pub bring_behind-requires : goal.bring_behind-requires
bring_behind-requires c =
    let t = c.requires.turn in
    let f = form_of c.args.form.now in
    let a = c.in_ok-price_row.ensures.prices t.0 t.1 t.2 t.3 t.4 in
    let w = subst (λ (z : Option Step). FollowsWalk f t.1.basis t.1.fresh t.2.place t.2.violation (Ok (c.in_ok-walk.walk, z))) c.in-Some.is
    (c.in_ok-walk.ensures.walk t.0 t.1 t.2 a.1).1 in
    let g = given f t.1 t.2 c.in_ok-walk.walk c.in-Some.step w in
    let n = has_next f t.0 t.1 t.2 g.taken a.1.reached a.1.pick g.is in
    let m = minor_at f t.1 t.2 g.taken in
    record { turn = (t.0, m, n.0, c.commit_walk.ensures.stepping f t.0 m n.0 a.1 w n.1) }

pub push_rows-requires : goal.push_rows-requires
push_rows-requires c =
    let t = c.requires.turn in
    let f = form_of c.args.form.now in
    let a = c.in_ok-price_row.ensures.prices t.0 t.1 t.2 t.3 t.4 in
    let w = subst (λ (z : Option Step). FollowsWalk f t.1.basis t.1.fresh t.2.place t.2.violation (Ok (c.in_ok-walk.walk, z))) c.in-Some.is
    (c.in_ok-walk.ensures.walk t.0 t.1 t.2 a.1).1 in
    let g = given f t.1 t.2 c.in_ok-walk.walk c.in-Some.step w in
    let n = has_next f t.0 t.1 t.2 g.taken a.1.reached a.1.pick g.is in
    let m = minor_at f t.1 t.2 g.taken in
    let s = c.commit_walk.ensures.stepping f t.0 m n.0 a.1 w n.1 in
    let b = (c.in_ok-bring_behind-in-Some.ensures.behind t.0 m n.0 s).1 in
    rows_lent f t.0 n.0 c.bring_behind.new.minor c.as_slice-in-Some.result.now b
    (c.as_slice-in-Some.ensures.value ∙ c.in_ok-remaining-in-Some.ensures.items ∙ c.remaining.ensures.stepping f t.0 m n.0 0 0 s)

pub returns-in_ok-push_rows-in-Some : goal.returns-in_ok-push_rows-in-Some
returns-in_ok-push_rows-in-Some c = record {
  fresh = λ e.
      let t = c.requires.turn in
      let f = form_of c.args.form.now in
      let a = c.in_ok-price_row.ensures.prices t.0 t.1 t.2 t.3 t.4 in
      let w = subst (λ (z : Option Step). FollowsWalk f t.1.basis t.1.fresh t.2.place t.2.violation (Ok (c.in_ok-walk.walk, z))) c.in-Some.is
      (c.in_ok-walk.ensures.walk t.0 t.1 t.2 a.1).1 in
      let g = given f t.1 t.2 c.in_ok-walk.walk c.in-Some.step w in
      let n = has_next f t.0 t.1 t.2 g.taken a.1.reached a.1.pick g.is in
      let m = minor_at f t.1 t.2 g.taken in
      let s = c.commit_walk.ensures.stepping f t.0 m n.0 a.1 w n.1 in
      (t.0, n.0, (c.in_ok-bring_behind-in-Some.ensures.behind t.0 m n.0 s).1);
}
