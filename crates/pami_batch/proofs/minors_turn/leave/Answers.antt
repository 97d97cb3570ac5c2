use Rattle.std.proofs.Common.{◌≡◌, ◌++◌, ◌∷◌, [], Option, None, Ok, Err, sym, ap, ◌∙◌, subst, arith}
use Rattle.std.proofs.lemmas.Result.{err_from_is_err_and}
use Rattle.pami_theory.specs.Form.{variables}
use Rattle.pami_theory.specs.Step.{step_at}
use Rattle.pami_bfrt.specs.Walks.{found_by}
use Rattle.pami_bfrt.specs.declared.walk.Walk.{Walk}
use Rattle.pami_form.specs.FormOf.{form_of}
use Rattle.pami_price.specs.Slices.{slices}
use Rattle.pami_vec.specs.declared.step.Step.{Step}
use Rattle.pami_minor.specs.Fresh.{IsPricing, IsFreshMinor}
use Rattle.pami_minor.specs.Steps.{IsStepFor, FollowsWalk}
use Rattle.pami_minor.specs.Turned.{flips_found}
use Rattle.pami_minor.proofs.Stepping.{given, given_flips}
use Rattle.pami_batch.specs.Told.{Tells}
use Rattle.pami_batch.specs.Turns.{minor_at, leave_tasks, IsLeft}
use Rattle.pami_batch.proofs.Pivoting.{has_next}
use Rattle.pami_batch.proofs.Noted.{stuck_told, step_told}
use Rattle.pami_batch.proofs.Leaving.{none_step, price_stops, walk_stops, stuck_fits, behind_stops, pivot_fits}
use Rattle.pami_batch.proofs.minors_turn.leave.Goals as goal

pub returns-in_err-price_row : goal.returns-in_err-price_row
returns-in_err-price_row c = record {
  left = λ limit r row h e s.
      let f = form_of c.args.form.now in
      let number = c.args.pick.now.number in
      let left = IsLeft f limit r row c.args.minor.now c.price_row.new.minor c.args.moves.now.items c.args.moves.now.items in
      let p = err_from_is_err_and c.from_residual.result c.from_residual.ensures.1 in
      subst (Tells left (leave_tasks f number r row)) (sym (p.1 ∙ ap Err p.2))
      (price_stops {A = Unit {0}} (λ x. IsPricing f limit r row (slices (variables f)) c.price_row.new.minor) f number r row left c.in_err-price_row.field-0.0
      (c.in_err-price_row.ensures.prices limit r row h e));
}

pub walk_row-requires : goal.walk_row-requires
walk_row-requires c =
    let t = c.requires.turn in
    record { turn = (t.0, t.1, t.2, (c.in_ok-price_row.ensures.prices t.0 t.1 t.2 t.3 t.4).1) }

pub returns-in_err-walk : goal.returns-in_err-walk
returns-in_err-walk c = record {
  left = λ limit r row h e s.
      let f = form_of c.args.form.now in
      let number = c.args.pick.now.number in
      let left = IsLeft f limit r row c.args.minor.now c.price_row.new.minor c.args.moves.now.items c.args.moves.now.items in
      let a = c.in_ok-price_row.ensures.prices limit r row h e in
      let p = err_from_is_err_and c.from_residual-in_err-walk.result c.from_residual-in_err-walk.ensures.1 in
      subst (Tells left (leave_tasks f number r row)) (sym (p.1 ∙ ap Err p.2))
      (walk_stops {A = Walk × Option Step} (λ answer. FollowsWalk f r.basis r.fresh row.place row.violation (Ok answer)) f number r row left
      c.in_err-walk.field-0.0 a.0 (c.in_err-walk.ensures.walk limit r row a.1));
}

pub note_stuck-requires : goal.note_stuck-requires
note_stuck-requires c =
    let t = c.requires.turn in
    let f = form_of c.args.form.now in
    record { turn = (f, t.0, t.1, t.2, slices (variables f), (c.in_ok-price_row.ensures.prices t.0 t.1 t.2 t.3 t.4).1, t.4) }

pub returns-in_ok-note_stuck-in-None : goal.returns-in_ok-note_stuck-in-None
returns-in_ok-note_stuck-in-None c = record {
  left = λ limit r row h e s.
      let f = form_of c.args.form.now in
      let a = c.in_ok-price_row.ensures.prices limit r row h e in
      let w = (c.in_ok-walk.ensures.walk limit r row a.1).1 in
      let o = step_at f r.basis r.fresh row.place row.violation in
      let none : o ≡ None = none_step f r.basis r.fresh o (subst (λ (z : Option Step). IsStepFor f r.basis r.fresh o z) c.in-None.is w.1) in (
        stuck_fits f c.args.pick.now.number r row (c.in_ok-walk.walk, c.in_ok-walk.step) a.0 w none,
        (
          none,
          c.in_ok-note_stuck-in-None.ensures.rho f limit r row (slices (variables f)) a.1 e,
          stuck_told r row c.price_row.new.minor.head.items c.args.pick.now.place c.args.pick.now.side c.args.moves.now.items c.note_stuck.new.moves.items
              a.1.head e s c.in_ok-note_stuck-in-None.ensures.moves,
        ),
      );
}

pub note_step-requires-clause-flips : goal.note_step-requires-clause-flips
note_step-requires-clause-flips c =
    let t = c.requires.turn in
    let f = form_of c.args.form.now in
    let a = c.in_ok-price_row.ensures.prices t.0 t.1 t.2 t.3 t.4 in
    let w = subst (λ (z : Option Step). FollowsWalk f t.1.basis t.1.fresh t.2.place t.2.violation (Ok (c.in_ok-walk.walk, z))) c.in-Some.is
    (c.in_ok-walk.ensures.walk t.0 t.1 t.2 a.1).1 in
    given_flips f t.0 t.1 t.2 (slices (variables f)) c.price_row.new.minor (flips_found (found_by c.in_ok-walk.walk)) c.in-Some.step a.1
    (given f t.1 t.2 c.in_ok-walk.walk c.in-Some.step w)

pub note_step-requires-clause-count : goal.note_step-requires-clause-count
note_step-requires-clause-count c =
    let t = c.requires.turn in
    let h = (c.in_ok-price_row.ensures.prices t.0 t.1 t.2 t.3 t.4).1 in
    let below = h.pick.below in
    let most = h.limited.most in
    let few = h.limited.few in
    let count = h.limited.count_is in
    omega (arith, below, most, few, count)

pub commit_walk-requires : goal.commit_walk-requires
commit_walk-requires c =
    let t = c.requires.turn in
    let f = form_of c.args.form.now in
    let a = c.in_ok-price_row.ensures.prices t.0 t.1 t.2 t.3 t.4 in
    let w = subst (λ (z : Option Step). FollowsWalk f t.1.basis t.1.fresh t.2.place t.2.violation (Ok (c.in_ok-walk.walk, z))) c.in-Some.is
    (c.in_ok-walk.ensures.walk t.0 t.1 t.2 a.1).1 in
    record { turn = (f, t.0, t.1, t.2, a.1, w) }

pub bring_behind-requires : goal.bring_behind-requires
bring_behind-requires c =
    let t = c.requires.turn in
    let f = form_of c.args.form.now in
    let a = c.in_ok-price_row.ensures.prices t.0 t.1 t.2 t.3 t.4 in
    let w = subst (λ (z : Option Step). FollowsWalk f t.1.basis t.1.fresh t.2.place t.2.violation (Ok (c.in_ok-walk.walk, z))) c.in-Some.is
    (c.in_ok-walk.ensures.walk t.0 t.1 t.2 a.1).1 in
    let g = given f t.1 t.2 c.in_ok-walk.walk c.in-Some.step w in
    let n = has_next f t.0 t.1 t.2 g.taken a.1.reached a.1.pick g.is in
    let m = minor_at f t.1 t.2 g.taken in
    record { turn = (t.0, m, n.0, c.commit_walk.ensures.stepping f t.0 m n.0 a.1 w n.1) }

pub returns-in_err-bring_behind-in-Some : goal.returns-in_err-bring_behind-in-Some
returns-in_err-bring_behind-in-Some c = record {
  left = λ limit r row h e s.
      let f = form_of c.args.form.now in
      let number = c.args.pick.now.number in
      let left = IsLeft f limit r row c.args.minor.now c.bring_behind.new.minor c.args.moves.now.items c.note_step.new.moves.items in
      let a = c.in_ok-price_row.ensures.prices limit r row h e in
      let w = (c.in_ok-walk.ensures.walk limit r row a.1).1 in
      let v = subst (λ (z : Option Step). FollowsWalk f r.basis r.fresh row.place row.violation (Ok (c.in_ok-walk.walk, z))) c.in-Some.is w in
      let g = given f r row c.in_ok-walk.walk c.in-Some.step v in
      let n = has_next f limit r row g.taken a.1.reached a.1.pick g.is in
      let m = minor_at f r row g.taken in
      let stepping = c.commit_walk.ensures.stepping f limit m n.0 a.1 v n.1 in
      let p = err_from_is_err_and c.from_residual-in_err-bring_behind-in-Some.result c.from_residual-in_err-bring_behind-in-Some.ensures.1 in
      subst (Tells left (leave_tasks f number r row)) (sym (p.1 ∙ ap Err p.2))
      (behind_stops {A = Unit {0}} (λ x. IsFreshMinor f limit n.0 c.bring_behind.new.minor) f number r row g.taken (c.in_ok-walk.walk, c.in_ok-walk.step) left
      c.in_err-bring_behind-in-Some.field-0.0 a.0 w g.is (c.in_err-bring_behind-in-Some.ensures.behind limit m n.0 stepping));
}

pub returns-in_ok-bring_behind-in-Some : goal.returns-in_ok-bring_behind-in-Some
returns-in_ok-bring_behind-in-Some c = record {
  left = λ limit r row h e s.
      let f = form_of c.args.form.now in
      let number = c.args.pick.now.number in
      let a = c.in_ok-price_row.ensures.prices limit r row h e in
      let w = (c.in_ok-walk.ensures.walk limit r row a.1).1 in
      let v = subst (λ (z : Option Step). FollowsWalk f r.basis r.fresh row.place row.violation (Ok (c.in_ok-walk.walk, z))) c.in-Some.is w in
      let g = given f r row c.in_ok-walk.walk c.in-Some.step v in
      let n = has_next f limit r row g.taken a.1.reached a.1.pick g.is in
      let m = minor_at f r row g.taken in
      let b = c.in_ok-bring_behind-in-Some.ensures.behind limit m n.0 (c.commit_walk.ensures.stepping f limit m n.0 a.1 v n.1) in (
        pivot_fits f number r row g.taken (c.in_ok-walk.walk, c.in_ok-walk.step) a.0 w g.is b.0,
        (
          g.taken,
          n.0,
          g.is,
          record {
            pivot = n.1;
            fresh = b.1;
            step = c.in-Some.step;
            step_is = g.step_of;
            steps = c.in_ok-bring_behind-in-Some.ensures.steps ∙ c.commit_walk.ensures.steps
                ∙ ap (λ ss. ss ++ c.in-Some.step ∷ []) c.in_ok-price_row.ensures.steps;
          },
          step_told f r row c.price_row.new.minor.stands.items c.price_row.new.minor.count (flips_found (found_by c.in_ok-walk.walk)) c.in-Some.step c.args.pick.now.side
              c.args.moves.now.items c.note_step.new.moves.items g a.1.stands a.1.limited.count_is s c.in_ok-note_step-in-Some.ensures,
        ),
      );
}
