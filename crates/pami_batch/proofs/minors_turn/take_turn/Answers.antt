use Rattle.std.proofs.Common.{◌+◌, ◌++◌, Ok, Err, sym, ap, ◌∙◌, subst, arith}
use Rattle.std.proofs.lemmas.Result.{err_from_is_err_and}
use Rattle.pami_theory.specs.declared.words.Violation.{Violation}
use Rattle.pami_log.specs.Events.{drops}
use Rattle.pami_form.specs.FormOf.{form_of}
use Rattle.pami_minor.specs.declared.row.RowPick.{RowPick}
use Rattle.pami_minor.specs.Follow.{FollowsPick}
use Rattle.pami_batch.specs.Turns.{IsTurn}
use Rattle.pami_batch.proofs.Leaving.{turn_stops, turn_leaves, turn_refused}
use Rattle.pami_batch.proofs.minors_turn.take_turn.Goals as goal

pub returns-in_err-pick : goal.returns-in_err-pick
returns-in_err-pick c = record {
  turn = λ limit r h.
      let f = form_of c.args.form.now in
      let p = err_from_is_err_and c.from_residual.result c.from_residual.ensures.1 in
      subst (IsTurn f limit r (c.args.taken + 1) c.args.minor.now c.pick_next.new.minor c.args.moves.now.items c.args.moves.now.items) (sym (p.1 ∙ ap Err p.2))
      (turn_refused {A = RowPick} (λ k. FollowsPick f limit r c.pick_next.new.minor (Ok k)) f limit r (c.args.taken + 1) c.args.minor.now c.pick_next.new.minor
      c.args.moves.now.items c.args.moves.now.items c.in_err-pick.field-0.0 (c.in_err-pick.ensures.pick f limit r h));
}

pub overflow_add-pick : goal.overflow_add-pick
overflow_add-pick c =
    let t = c.requires.turn in
    let f = form_of c.args.form.now in
    let w = subst (λ (k : RowPick). FollowsPick f t.0 t.1 c.pick_next.new.minor (Ok k)) c.in-Row.is (c.in_ok-pick.ensures.pick f t.0 t.1 t.2).1 in
    let below = w.4.pick.below in
    let most = w.4.limited.most in
    let few = w.4.limited.few in
    let taken = t.3 in
    omega (arith, below, most, few, taken)

pub leave-requires : goal.leave-requires
leave-requires c =
    let t = c.requires.turn in
    let f = form_of c.args.form.now in
    let w = subst (λ (k : RowPick). FollowsPick f t.0 t.1 c.pick_next.new.minor (Ok k)) c.in-Row.is (c.in_ok-pick.ensures.pick f t.0 t.1 t.2).1 in
    record { turn = (t.0, t.1, w.0, w.4, w.1) }

pub returns-in-Stop : goal.returns-in-Stop
returns-in-Stop c = record {
  turn = λ limit r h.
      let f = form_of c.args.form.now in
      let a = c.in_ok-pick.ensures.pick f limit r h in
      let w = subst (λ (k : RowPick). FollowsPick f limit r c.pick_next.new.minor (Ok k)) c.in-Stop.is a.1 in
      turn_stops f limit r (c.args.taken + 1) c.args.minor.now c.pick_next.new.minor c.args.moves.now.items c.note_drops.new.moves.items
      c.pick_next.new.minor.dropped.items w.0 w.1 c.in_ok-pick.ensures.steps
      (c.in_ok-note_drops.ensures ∙ ap (λ vs. c.args.moves.now.items ++ drops vs) c.dropped.ensures) a.0;
}

pub returns-in-Row : goal.returns-in-Row
returns-in-Row c = record {
  turn = λ limit r h.
      let f = form_of c.args.form.now in
      let a = c.in_ok-pick.ensures.pick f limit r h in
      let w = subst (λ (k : RowPick). FollowsPick f limit r c.pick_next.new.minor (Ok k)) c.in-Row.is a.1 in
      turn_leaves f limit r w.0 (c.args.taken + 1) c.args.minor.now c.pick_next.new.minor c.leave.new.minor c.args.moves.now.items c.note_drops.new.moves.items
      c.leave.new.moves.items c.leave.result w.4.pick c.in_ok-pick.ensures.steps
      (c.in_ok-note_drops.ensures ∙ ap (λ vs. c.args.moves.now.items ++ drops vs) (c.dropped.ensures ∙ w.3)) a.0
      (c.leave.ensures.left limit r w.0 w.4 w.1 (ap (λ (v : Violation). v.side) w.2));
}
