use Rattle.std.proofs.Common.{refl, sym, ap, ◌∙◌, length, map, arith}
use Rattle.pami_price.specs.Slices.{slices}
use Rattle.pami_minor.specs.declared.kept.Kept.{Kept}
use Rattle.pami_minor.proofs.Opens.{opens, places_low, values_long, head_known}
use Rattle.pami_minor.proofs.minor.Minor.open.Goals as goal

pub open_rows-requires-clause-places : goal.open_rows-requires-clause-places
open_rows-requires-clause-places c = places_low c.args.form.now c.args.state.now c.args.chosen.now c.args.steps_left c.requires.openable

pub open_rows-requires-clause-values : goal.open_rows-requires-clause-values
open_rows-requires-clause-values c = values_long c.args.form.now c.args.state.now c.args.chosen.now c.args.steps_left c.requires.openable

pub open_rows-requires-clause-known : goal.open_rows-requires-clause-known
open_rows-requires-clause-known c =
    head_known c.args.form.now c.args.state.now c.args.chosen.now c.args.steps_left c.args.form.now.kept.form c.requires.openable

pub returns-clause-opening : goal.returns-clause-opening
returns-clause-opening c = λ s most fresh e.
    opens c.args.form.now c.args.state.now c.args.chosen.now c.args.steps_left s most _ c.requires.openable fresh e
    (record {
      head = c.in_ok-head.ensures.items ∙ c.as_slice-2.ensures;
      stands = c.in_ok-stands.ensures.items ∙ c.as_slice-3.ensures;
      reduced = c.in_ok-reduced.ensures.items ∙ c.as_slice-4.ensures;
      count = refl;
      limit = refl;
      rows_are = c.in_ok-rows.ensures;
      nows = c.in_ok-nows.ensures.capacity;
      dropped = c.in_ok-dropped.ensures.capacity;
      remaining = (let l = c.in_ok-remaining.ensures.capacity in let m = c.note_places.ensures.room in omega (arith, l, m));
      places_are = c.note_places.ensures.places ∙ ap (map (λ (k : Kept). k.at.place)) c.as_slice.ensures.value;
      steps = (let l = c.in_ok-steps.ensures.len in let m = c.in_ok-steps.ensures.capacity in omega (arith, l, m));
      slices_are = c.in_ok-alpha.ensures ∙ ap slices (c.len.ensures ∙ c.in_ok-stands.ensures.len ∙ sym (ap length c.in_ok-stands.ensures.items));
    })
