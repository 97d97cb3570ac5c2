use Rattle.std.proofs.Common.{◌≡◌, ◌<◌, ◌≤◌, Err, refl, sym, ap, ◌∙◌, subst, arith}
use Rattle.std.specs.Global.{Vec}
use Rattle.std.proofs.lemmas.Result.{err_from_is_err_and}
use Rattle.pami_frac.specs.declared.list.Entry.{Entry}
use Rattle.pami_theory.specs.Form.{variables}
use Rattle.pami_method.specs.Work.{slices as all_slices, price_tasks}
use Rattle.pami_form.specs.FormOf.{form_of}
use Rattle.pami_price.specs.Slices.{slices}
use Rattle.pami_minor.specs.Fresh.{IsPricing}
use Rattle.pami_minor.specs.Follow.{IsPriceOf}
use Rattle.pami_batch.specs.Told.{Tells, price_task}
use Rattle.pami_batch.proofs.Refusals.{rest_begins, rest_goes, rest_ends}
use Rattle.pami_batch.proofs.Told.{rest_stops}
use Rattle.pami_batch.proofs.Slices.{nth_slice, slices_end}
use Rattle.pami_batch.proofs.minors_parts.price_row.Goals as goal

pub loop-slice-init : goal.loop-slice-init
loop-slice-init c = (
  λ limit r row h e.
      let f = form_of c.args.form.now in (h, rest_begins (price_task f c.args.number r row) (all_slices f)),
  refl,
)

pub price_one-requires-clause-turn : goal.price_one-requires-clause-turn
price_one-requires-clause-turn c =
    let t = c.requires.turn in
    let i = c.loop-slice.invariant.0 t.0 t.1 t.2 t.3 t.4 in
    (t.0, t.1, t.2, c.loop-slice.slice, i.0, t.4)

pub returns-in_err-alpha-clause-prices : goal.returns-in_err-alpha-clause-prices
returns-in_err-alpha-clause-prices c = λ limit r row h e.
    let f = form_of c.args.form.now in
    let p = err_from_is_err_and c.from_residual.result c.from_residual.ensures.1 in
    let i = c.loop-slice.invariant.0 limit r row h e in
    let here : c.loop-slice.slice < slices (variables f) = subst (λ n. c.loop-slice.slice < n) c.slice_count-slice-end.ensures c.loop-slice-test.true in
    let l = nth_slice f c.loop-slice.slice here in
    subst (Tells (λ x. IsPricing f limit r row (slices (variables f)) c.loop-slice.minor) (price_tasks f c.args.number r row)) (sym (p.1 ∙ ap Err p.2))
    (rest_stops {C = Unit {0}} (λ (es : Vec Entry). IsPriceOf f r row c.loop-slice.slice es.items)
    (λ x. IsPricing f limit r row (slices (variables f)) c.loop-slice.minor) (price_task f c.args.number r row) (all_slices f)
    c.loop-slice.slice c.loop-slice.slice c.in_err-alpha.field-0.0 i.1 l.0 l.1 (c.in_err-alpha.ensures.price limit r row c.loop-slice.slice i.0 e))

pub commit_price-requires : goal.commit_price-requires
commit_price-requires c =
    let t = c.requires.turn in
    let f = form_of c.args.form.now in
    let i = c.loop-slice.invariant.0 t.0 t.1 t.2 t.3 t.4 in
    let here : c.loop-slice.slice < slices (variables f) = subst (λ n. c.loop-slice.slice < n) c.slice_count-slice-end.ensures c.loop-slice-test.true in
    record { turn = (f, t.0, t.1, t.2, i.0, here) }

pub loop-slice-preserved : goal.loop-slice-preserved
loop-slice-preserved c = (
  λ limit r row h e.
      let f = form_of c.args.form.now in
      let i = c.loop-slice.invariant.0 limit r row h e in
      let a = c.in_ok-alpha.ensures.price limit r row c.loop-slice.slice i.0 e in
      let here : c.loop-slice.slice < slices (variables f) = subst (λ n. c.loop-slice.slice < n) c.slice_count-slice-end.ensures c.loop-slice-test.true in
      let l = nth_slice f c.loop-slice.slice here in (
        c.commit_price.ensures.priced f limit r row i.0 a.1,
        rest_goes (price_task f c.args.number r row) (all_slices f) c.loop-slice.slice c.loop-slice.slice i.1 l.0 l.1 a.0,
      ),
  ap (λ v. v.items) c.commit_price.ensures.steps ∙ c.loop-slice.invariant.1,
)

pub returns-clause-prices : goal.returns-clause-prices
returns-clause-prices c = λ limit r row h e.
    let f = form_of c.args.form.now in
    let i = c.loop-slice.invariant.0 limit r row h e in
    let all = c.slice_count-slice-end.ensures in
    let past = c.loop-slice-test.false in
    let low = c.loop-slice.auto.slice-end in
    let end : c.loop-slice.slice ≡ slices (variables f) = omega (arith, all, past, low) in
    let past_all : slices (variables f) ≤ c.loop-slice.slice = omega (arith, end) in (
      rest_ends (price_task f c.args.number r row) (all_slices f) c.loop-slice.slice i.1 (slices_end f c.loop-slice.slice past_all),
      subst (λ n. IsPricing f limit r row n c.loop-slice.minor) end i.0,
    )
