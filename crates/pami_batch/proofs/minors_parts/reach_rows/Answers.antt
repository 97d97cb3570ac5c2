use Rattle.std.proofs.Common.{◌≡◌, ◌<◌, ◌≤◌, map, length, get_or, Err, refl, sym, ap, ◌∙◌, subst, arith}
use Rattle.std.proofs.lemmas.Result.{err_from_is_err_and}
use Rattle.pami_method.specs.Batch.{places}
use Rattle.pami_method.specs.Work.{first_refused}
use Rattle.pami_form.specs.FormOf.{form_of}
use Rattle.pami_minor.specs.Behind.{IsRowOf, IsReachedRow}
use Rattle.pami_minor.specs.Fresh.{IsStepping}
use Rattle.pami_batch.specs.Told.{Tells, reach_task}
use Rattle.pami_batch.proofs.Refusals.{rest_begins, rest_goes, rest_ends}
use Rattle.pami_batch.proofs.Told.{rest_stops}
use Rattle.pami_batch.proofs.PlaceRows.{places_long, row_of, place_at, reach_tasks_are}
use Rattle.pami_batch.proofs.minors_parts.reach_rows.Goals as goal

pub loop-i-init : goal.loop-i-init
loop-i-init c = (λ limit m next h. (h, rest_begins (reach_task (form_of c.args.form.now) c.args.number m) (places next.rows)), refl)

pub reach_one-requires : goal.reach_one-requires
reach_one-requires c =
    let t = c.requires.turn in
    let f = form_of c.args.form.now in
    let i = c.loop-i.i in
    let k = c.loop-i.invariant.0 t.0 t.1 t.2 t.3 in
    let many = ap length (c.remaining-i-end.ensures.stepping f t.0 t.1 t.2 0 0 t.3) ∙ places_long t.2.rows in
    let test = c.loop-i-test.true in
    let low : i < length t.2.rows = omega (arith, test, many) in
    let at = ap (λ ps. get_or ps i 0) (c.remaining.ensures.stepping f t.0 t.1 t.2 i 0 k.0) in
    record { turn = (t.0, t.1, t.2, i, 0, k.0, row_of t.2 i (get_or c.remaining.result.now i 0) low at) }

pub returns-in_err-reached-clause-rows : goal.returns-in_err-reached-clause-rows
returns-in_err-reached-clause-rows c = λ limit m next h.
    let f = form_of c.args.form.now in
    let i = c.loop-i.i in
    let place = get_or c.remaining.result.now i 0 in
    let p = err_from_is_err_and c.from_residual.result c.from_residual.ensures.1 in
    let k = c.loop-i.invariant.0 limit m next h in
    let many = ap length (c.remaining-i-end.ensures.stepping f limit m next 0 0 h) ∙ places_long next.rows in
    let test = c.loop-i-test.true in
    let low : i < length next.rows = omega (arith, test, many) in
    let at = ap (λ ps. get_or ps i 0) (c.remaining.ensures.stepping f limit m next i 0 k.0) in
    let l = place_at next.rows i place low at in
    subst (λ ts. Tells (λ x. IsStepping f limit m next (length next.rows) 0 c.loop-i.minor) ts c.from_residual.result)
    (reach_tasks_are f c.args.number m next k.0.pivot.behind)
    (subst (Tells (λ x. IsStepping f limit m next (length next.rows) 0 c.loop-i.minor) (map (reach_task f c.args.number m) (places next.rows))) (sym (p.1 ∙ ap Err p.2))
    (rest_stops {C = Unit {0}} (IsReachedRow next place) (λ x. IsStepping f limit m next (length next.rows) 0 c.loop-i.minor) (reach_task f c.args.number m) (places next.rows)
    i place c.in_err-reached.field-0.0 k.1 l.0 l.1 (c.in_err-reached.ensures.reach limit m next i 0 k.0 (row_of next i place low at))))

pub commit_reach-requires : goal.commit_reach-requires
commit_reach-requires c =
    let t = c.requires.turn in
    let f = form_of c.args.form.now in
    let i = c.loop-i.i in
    let place = get_or c.remaining.result.now i 0 in
    let k = c.loop-i.invariant.0 t.0 t.1 t.2 t.3 in
    let many = ap length (c.remaining-i-end.ensures.stepping f t.0 t.1 t.2 0 0 t.3) ∙ places_long t.2.rows in
    let test = c.loop-i-test.true in
    let low : i < length t.2.rows = omega (arith, test, many) in
    let at = ap (λ ps. get_or ps i 0) (c.remaining.ensures.stepping f t.0 t.1 t.2 i 0 k.0) in
    let o = row_of t.2 i place low at in
    let a = c.in_ok-reached.ensures.reach t.0 t.1 t.2 i 0 k.0 o in
    record { turn = (f, t.0, t.1, t.2, i, 0, k.0, subst (λ q. IsRowOf t.2 i q) (sym a.1.place_is) o) }

pub loop-i-preserved : goal.loop-i-preserved
loop-i-preserved c = (
  λ limit m next h.
      let f = form_of c.args.form.now in
      let i = c.loop-i.i in
      let place = get_or c.remaining.result.now i 0 in
      let k = c.loop-i.invariant.0 limit m next h in
      let many = ap length (c.remaining-i-end.ensures.stepping f limit m next 0 0 h) ∙ places_long next.rows in
      let test = c.loop-i-test.true in
      let low : i < length next.rows = omega (arith, test, many) in
      let at = ap (λ ps. get_or ps i 0) (c.remaining.ensures.stepping f limit m next i 0 k.0) in
      let l = place_at next.rows i place low at in
      let o = row_of next i place low at in
      let a = c.in_ok-reached.ensures.reach limit m next i 0 k.0 o in (
        c.commit_reach.ensures.reached f limit m next i 0 k.0 (subst (λ q. IsRowOf next i q) (sym a.1.place_is) o)
            (subst (λ q. IsReachedRow next q c.in_ok-reached.reached) (sym a.1.place_is) a.1),
        rest_goes (reach_task f c.args.number m) (places next.rows) i place k.1 l.0 l.1 a.0,
      ),
  ap (λ v. v.items) c.commit_reach.ensures.steps ∙ c.loop-i.invariant.1,
)

pub returns-clause-rows : goal.returns-clause-rows
returns-clause-rows c = λ limit m next h.
    let f = form_of c.args.form.now in
    let i = c.loop-i.i in
    let k = c.loop-i.invariant.0 limit m next h in
    let many = ap length (c.remaining-i-end.ensures.stepping f limit m next 0 0 h) ∙ places_long next.rows in
    let past = c.loop-i-test.false in
    let low = c.loop-i.auto.i-end in
    let end : i ≡ length next.rows = omega (arith, many, past, low) in
    let n = places_long next.rows in
    let past_all : length (places next.rows) ≤ i = omega (arith, end, n) in (
      ap first_refused (sym (reach_tasks_are f c.args.number m next k.0.pivot.behind))
          ∙ rest_ends (reach_task f c.args.number m) (places next.rows) i k.1 past_all,
      subst (λ q. IsStepping f limit m next q 0 c.loop-i.minor) end k.0,
    )
