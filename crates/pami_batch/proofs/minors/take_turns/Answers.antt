use Rattle.std.proofs.Common.{◌+◌, ◌++◌, ◌∷◌, [], List, Result, Ok, Err, sym, ap, ◌∙◌, subst, arith}
use Rattle.std.proofs.lemmas.Result.{err_from_is_err_and}
use Rattle.pami_frac.specs.declared.fault.Fault.{Fault}
use Rattle.pami_method.specs.declared.words.Place.{Place}
use Rattle.pami_log.specs.declared.event.Move.{Move}
use Rattle.pami_form.specs.FormOf.{form_of}
use Rattle.pami_batch.specs.declared.minors.Minors.{Minors}
use Rattle.pami_batch.specs.declared.minors.Minors.TheVariants as minors
use Rattle.pami_batch.specs.declared.minors_turn.Taken.{Taken}
use Rattle.pami_batch.specs.Minors.{HasMinors}
use Rattle.pami_batch.specs.Turns.{IsTurn}
use Rattle.pami_batch.proofs.Running.{IsRunning, running_begins, running_goes, running_stops, running_sticks, running_refused, running_smaller}
use Rattle.pami_batch.proofs.minors.take_turns.Goals as goal

pub loop-moves-init : goal.loop-moves-init
loop-moves-init c = λ limit h first k e. (
  [],
  first,
  subst (λ (ms : List Move). IsRunning (form_of c.args.form.now) limit h first [] first 0 c.args.minor ms) (sym c.new-moves.ensures.items)
      (running_begins (form_of c.args.form.now) limit h first c.args.minor k e c.requires.steps),
)

pub take_turn-requires : goal.take_turn-requires
take_turn-requires c =
    let t = c.requires.turn in
    let i = c.loop-moves.invariant t.0 t.1 t.2 t.3 t.4 in
    record { turn = (t.0, i.1, i.2.fresh, i.2.counted) }

pub returns-in_err-take_turn : goal.returns-in_err-take_turn
returns-in_err-take_turn c = record {
  minors = λ limit h first k e.
      let f = form_of c.args.form.now in
      let i = c.loop-moves.invariant limit h first k e in
      let p = err_from_is_err_and c.from_residual.result c.from_residual.ensures.1 in
      subst (λ (x : Result Minors (Fault Place)). HasMinors f limit h first x) (sym (p.1 ∙ ap Err p.2))
      (running_refused f limit h first i.0 i.1 c.loop-moves.taken c.loop-moves.minor c.take_turn.new.minor c.loop-moves.moves.items c.take_turn.new.moves.items
      c.in_err-take_turn.field-0.0 i.2 (c.in_err-take_turn.ensures.turn limit i.1 i.2.fresh));
}

pub returns-in-Stopped : goal.returns-in-Stopped
returns-in-Stopped c = record {
  minors = λ limit h first k e.
      let f = form_of c.args.form.now in
      let i = c.loop-moves.invariant limit h first k e in
      let t = subst (λ (x : Taken). IsTurn f limit i.1 (c.loop-moves.taken + 1) c.loop-moves.minor c.take_turn.new.minor c.loop-moves.moves.items c.take_turn.new.moves.items (Ok x))
      c.in-Stopped.is (c.in_ok-take_turn.ensures.turn limit i.1 i.2.fresh) in
      subst (λ (ms : List Move). HasMinors f limit h first (Ok (minors.Stopped c.take_turn.new.minor ms))) (sym c.from_vec-moves.ensures)
      (running_stops f limit h first i.0 i.1 c.loop-moves.taken c.loop-moves.minor c.take_turn.new.minor c.loop-moves.moves.items c.take_turn.new.moves.items i.2 t);
}

pub returns-in-Stuck : goal.returns-in-Stuck
returns-in-Stuck c = record {
  minors = λ limit h first k e.
      let f = form_of c.args.form.now in
      let i = c.loop-moves.invariant limit h first k e in
      let t = subst (λ (x : Taken). IsTurn f limit i.1 (c.loop-moves.taken + 1) c.loop-moves.minor c.take_turn.new.minor c.loop-moves.moves.items c.take_turn.new.moves.items (Ok x))
      c.in-Stuck.is (c.in_ok-take_turn.ensures.turn limit i.1 i.2.fresh) in
      subst (λ (ms : List Move). HasMinors f limit h first (Ok (minors.Stuck c.in-Stuck.rho ms))) (sym c.from_vec-moves-in-Stuck.ensures)
      (running_sticks f limit h first i.0 i.1 c.loop-moves.taken c.loop-moves.minor c.take_turn.new.minor c.loop-moves.moves.items c.take_turn.new.moves.items
      c.in-Stuck.rho i.2 t);
}

pub overflow_add-taken : goal.overflow_add-taken
overflow_add-taken c =
    let r = c.requires.turn in
    let f = form_of c.args.form.now in
    let i = c.loop-moves.invariant r.0 r.1 r.2 r.3 r.4 in
    let t = subst (λ (x : Taken). IsTurn f r.0 i.1 (c.loop-moves.taken + 1) c.loop-moves.minor c.take_turn.new.minor c.loop-moves.moves.items c.take_turn.new.moves.items (Ok x))
    c.in-Pivoted.is (c.in_ok-take_turn.ensures.turn r.0 i.1 i.2.fresh) in
    let g = running_goes f r.0 r.1 r.2 i.0 i.1 c.loop-moves.taken c.loop-moves.minor c.take_turn.new.minor c.loop-moves.moves.items c.take_turn.new.moves.items i.2 t in
    let counted = g.counted in
    let most = g.fresh.limited.most in
    let few = g.fresh.limited.few in
    omega (arith, counted, most, few)

pub loop-moves-smaller : goal.loop-moves-smaller
loop-moves-smaller c =
    let r = c.requires.turn in
    let f = form_of c.args.form.now in
    let i = c.loop-moves.invariant r.0 r.1 r.2 r.3 r.4 in
    let t = subst (λ (x : Taken). IsTurn f r.0 i.1 (c.loop-moves.taken + 1) c.loop-moves.minor c.take_turn.new.minor c.loop-moves.moves.items c.take_turn.new.moves.items (Ok x))
    c.in-Pivoted.is (c.in_ok-take_turn.ensures.turn r.0 i.1 i.2.fresh) in
    running_smaller f r.0 r.1 r.2 i.0 i.1 c.loop-moves.taken c.loop-moves.minor c.take_turn.new.minor c.loop-moves.moves.items c.take_turn.new.moves.items i.2 t

pub loop-moves-preserved : goal.loop-moves-preserved
loop-moves-preserved c = λ limit h first k e.
    let f = form_of c.args.form.now in
    let i = c.loop-moves.invariant limit h first k e in
    let t = subst (λ (x : Taken). IsTurn f limit i.1 (c.loop-moves.taken + 1) c.loop-moves.minor c.take_turn.new.minor c.loop-moves.moves.items c.take_turn.new.moves.items (Ok x))
    c.in-Pivoted.is (c.in_ok-take_turn.ensures.turn limit i.1 i.2.fresh) in (
      i.0 ++ t.0 ∷ [],
      t.1,
      running_goes f limit h first i.0 i.1 c.loop-moves.taken c.loop-moves.minor c.take_turn.new.minor c.loop-moves.moves.items c.take_turn.new.moves.items i.2 t,
    )
