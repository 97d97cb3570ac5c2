use Rattle.std.proofs.Common.{map, length, Option, Ok, refl, sym, ap, ◌∙◌, subst, arith, true≢false}
use Rattle.pami_minor.specs.declared.kept.Kept.{Kept}
use Rattle.pami_minor.specs.declared.kept.Picked.{Picked}
use Rattle.pami_minor.specs.Follow.{FollowsAmong}
use Rattle.pami_minor.proofs.Among.{fresh_length}
use Rattle.pami_minor.proofs.NextRow.{positive_weights, picked_few, picks}
use Rattle.pami_minor.proofs.minor.Minor.next_row.Goals as goal

pub pick_among-requires-clause-weights : goal.pick_among-requires-clause-weights
pick_among-requires-clause-weights c = λ i d l.
    let h = c.requires.turn in positive_weights h.0 h.1 h.2 c.args.self.now i d h.3 l

pub pick_among-requires-clause-nows_room : goal.pick_among-requires-clause-nows_room
pick_among-requires-clause-nows_room c =
    let h = c.requires.turn.3 in
    let n = fresh_length _ _ _ _ h.rows in
    let k = c.args.self.now.rows.ok.0 in
    let room = h.room.nows in
    omega (arith, n, k, room)

pub pick_among-requires-clause-dropped_room : goal.pick_among-requires-clause-dropped_room
pick_among-requires-clause-dropped_room c =
    let h = c.requires.turn.3 in
    let n = fresh_length _ _ _ _ h.rows in
    let k = c.args.self.now.rows.ok.0 in
    let room = h.room.dropped in
    omega (arith, n, k, room)

pub note_places-requires : goal.note_places-requires
note_places-requires c =
    let h = c.requires.turn.3 in
    let a = c.in_ok-pick_among.ensures.pick c.requires.turn.0 c.requires.turn.2 c.requires.turn.2.rows h.rows h.reached.apart in
    let few = picked_few c.requires.turn.0 c.requires.turn.2 c.pick_among.new.rows.items c.pick_among.new.dropped.items c.in_ok-pick_among.field-0 c.in-Some.picked a c.in-Some.is in
    let read = ap length c.as_slice.ensures.value in
    let room = h.room.remaining in
    record { room = omega (arith, few, read, room) }

pub returns-in-Some : goal.returns-in-Some
returns-in-Some c = record {
  pick = λ f limit r h.
      picks f limit r c.args.self.now _ c.in-Some.picked h
      (record {
        head = refl;
        stands = refl;
        reduced = refl;
        count = refl;
        limit = refl;
        alpha = refl;
        steps = refl;
        nows = c.in_ok-pick_among.ensures.nows_room;
        dropped = c.in_ok-pick_among.ensures.dropped_room;
        remaining = c.note_places.ensures.room;
      })
      c.if-self.false refl
      (c.note_places.ensures.places ∙ ap (map (λ (k : Kept). k.at.place)) c.as_slice.ensures.value)
      (subst (λ (o : Option Picked). FollowsAmong f r r.rows c.pick_among.new.rows.items c.pick_among.new.dropped.items (Ok o)) c.in-Some.is
      (c.in_ok-pick_among.ensures.pick f r r.rows h.rows h.reached.apart));
  refused = λ f limit r h e. absurd (true≢false (sym e));
  lent = λ e. absurd (true≢false (sym e));
  steps = refl;
}
