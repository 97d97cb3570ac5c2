use Rattle.std.proofs.Common.{List, map, length, Result, Option, Err, sym, ap, ◌∙◌, subst}
use Rattle.std.proofs.lemmas.Result.{err_from_is_err_and}
use Rattle.pami_frac.specs.declared.arithmetic.Refused.{Refused}
use Rattle.pami_minor.specs.declared.kept.Kept.{Kept}
use Rattle.pami_minor.specs.declared.kept.Picked.{Picked}
use Rattle.pami_minor.specs.Follow.{FollowsAmong}
use Rattle.pami_minor.specs.Rows.{looks_by, best_by, dropped_by}
use Rattle.pami_minor.specs.Picks.{remaining_of, staying_by, HasRowAt}
use Rattle.pami_minor.proofs.Looks.{looked, looks_refused, looks_length, known_of, stay_fresh}
use Rattle.pami_minor.proofs.Among.{has_best, among}
use Rattle.pami_minor.proofs.pick.pick_among.Goals as goal

pub returns-in_err-look_at-clause-pick : goal.returns-in_err-look_at-clause-pick
returns-in_err-look_at-clause-pick c = λ f r xs h apart.
    let p = err_from_is_err_and c.from_residual.result c.from_residual.ensures.1 in
    let looks = ap (λ (ks : List Kept). looks_by (map remaining_of ks)) (sym c.as_slice.ensures.value) ∙ c.in_err-look_at.ensures.looks in
    subst (λ (res : Result (Option Picked) Refused). FollowsAmong f r xs c.args.rows.now.items c.args.dropped.now.items res) (sym (p.1 ∙ ap Err p.2))
    (looks_refused f r (map remaining_of c.args.rows.now.items) xs 0 c.in_err-look_at.field-0.0 (known_of f r c.args.rows.now.items xs h) looks)

pub note_dropped-requires-clause-same : goal.note_dropped-requires-clause-same
note_dropped-requires-clause-same c =
    ap length c.as_slice-3.ensures.value ∙ looks_length c.as_slice.result.now c.look_at.new.nows.items c.in_ok-look_at.ensures.looks
    ∙ ap length (c.as_slice.ensures.value ∙ sym c.as_slice-2.ensures.value)

pub best_row-best-requires : goal.best_row-best-requires
best_row-best-requires c = record {
  same = ap length c.as_slice-5.ensures.value ∙ looks_length c.as_slice.result.now c.look_at.new.nows.items c.in_ok-look_at.ensures.looks
      ∙ ap length (c.as_slice.ensures.value ∙ sym c.as_slice-4.ensures.value);
}

pub drop_rows-requires : goal.drop_rows-requires
drop_rows-requires c = record {
  same = ap length c.as_slice-6.ensures.value ∙ looks_length c.as_slice.result.now c.look_at.new.nows.items c.in_ok-look_at.ensures.looks
      ∙ c.as_slice.ensures.len;
}

pub take_best-requires : goal.take_best-requires
take_best-requires c = λ row e.
    let fresh = c.requires.fresh in
    let looks = ap (λ (ks : List Kept). looks_by (map remaining_of ks)) (sym c.as_slice.ensures.value) ∙ c.in_ok-look_at.ensures.looks in
    let best = ap (λ (ks : List Kept). best_by (map remaining_of ks) c.as_slice-5.result.now) (sym c.as_slice-4.ensures.value) ∙ sym c.best_row-best.ensures in
    subst (λ (ks : List Kept). HasRowAt row.place ks)
    (ap (staying_by c.args.rows.now.items) (sym c.as_slice-6.ensures.value) ∙ sym c.drop_rows.ensures)
    (has_best fresh.0 fresh.1 c.args.rows.now.items c.look_at.new.nows.items fresh.2 row
    (looked fresh.0 fresh.1 (map remaining_of c.args.rows.now.items) fresh.2 0 c.look_at.new.nows.items
    (known_of fresh.0 fresh.1 c.args.rows.now.items fresh.2 fresh.3) looks)
    (stay_fresh fresh.0 fresh.1 c.args.rows.now.items fresh.2 0 c.look_at.new.nows.items fresh.3 looks)
    (ap (best_by (map remaining_of c.args.rows.now.items)) (sym c.as_slice-5.ensures.value) ∙ best ∙ e))

pub returns-clause-pick : goal.returns-clause-pick
returns-clause-pick c = λ f r xs h apart.
    among f r c.args.rows.now.items c.look_at.new.nows.items xs c.best_row-best.result c.drop_rows.new.rows.items c.take_best.new.rows.items
    c.note_dropped.new.dropped.items c.take_best.result h apart
    (ap (λ (ks : List Kept). looks_by (map remaining_of ks)) (sym c.as_slice.ensures.value) ∙ c.in_ok-look_at.ensures.looks)
    (c.best_row-best.ensures ∙ ap (λ (ks : List Kept). best_by (map remaining_of ks) c.as_slice-5.result.now) c.as_slice-4.ensures.value
    ∙ ap (best_by (map remaining_of c.args.rows.now.items)) c.as_slice-5.ensures.value)
    (c.drop_rows.ensures ∙ ap (staying_by c.args.rows.now.items) c.as_slice-6.ensures.value)
    (c.note_dropped.ensures.places ∙ ap (λ (ks : List Kept). dropped_by (map remaining_of ks) c.as_slice-3.result.now) c.as_slice-2.ensures.value
    ∙ ap (dropped_by (map remaining_of c.args.rows.now.items)) c.as_slice-3.ensures.value)
    c.take_best.ensures
