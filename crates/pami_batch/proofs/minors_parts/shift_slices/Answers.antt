use Rattle.std.proofs.Common.{◌≡◌, ◌<◌, ◌≤◌, Err, refl, sym, ap, ◌∙◌, subst, arith}
use Rattle.std.specs.Global.{Vec}
use Rattle.std.proofs.lemmas.Result.{err_from_is_err_and}
use Rattle.pami_frac.specs.declared.list.Entry.{Entry}
use Rattle.pami_theory.specs.Form.{variables}
use Rattle.pami_method.specs.Work.{slices as all_slices, shift_tasks}
use Rattle.pami_form.specs.FormOf.{form_of}
use Rattle.pami_price.specs.Slices.{slices}
use Rattle.pami_minor.specs.Fresh.{IsStepping}
use Rattle.pami_minor.specs.Shifts.{AreCosts}
use Rattle.pami_batch.specs.Told.{Tells, shift_task}
use Rattle.pami_batch.proofs.Refusals.{rest_begins, rest_goes, rest_ends}
use Rattle.pami_batch.proofs.Told.{rest_stops}
use Rattle.pami_batch.proofs.Slices.{nth_slice, slices_end, form_few}
use Rattle.pami_batch.proofs.minors_parts.shift_slices.Goals as goal

pub loop-slice-init : goal.loop-slice-init
loop-slice-init c = (
  λ limit m next i h.
      let f = form_of c.args.form.now in (h, rest_begins (shift_task f c.args.number m) (all_slices f)),
  refl,
)

pub shift_one-requires : goal.shift_one-requires
shift_one-requires c =
    let t = c.requires.turn in
    let f = form_of c.args.form.now in
    let i = c.loop-slice.invariant.0 t.0 t.1 t.2 t.3 t.4 in
    let here : c.loop-slice.slice < slices (variables f) = subst (λ n. c.loop-slice.slice < n) c.slice_count-slice-end.ensures c.loop-slice-test.true in
    record { turn = (f, t.0, t.1, t.2, t.3, i.0, here, form_few c.args.form.now c.args.form.now.kept) }

pub returns-in_err-costs-clause-costs : goal.returns-in_err-costs-clause-costs
returns-in_err-costs-clause-costs c = λ limit m next i h.
    let f = form_of c.args.form.now in
    let p = err_from_is_err_and c.from_residual.result c.from_residual.ensures.1 in
    let k = c.loop-slice.invariant.0 limit m next i h in
    let here : c.loop-slice.slice < slices (variables f) = subst (λ n. c.loop-slice.slice < n) c.slice_count-slice-end.ensures c.loop-slice-test.true in
    let l = nth_slice f c.loop-slice.slice here in
    subst (Tells (λ x. IsStepping f limit m next i (slices (variables f)) c.loop-slice.minor) (shift_tasks f c.args.number m)) (sym (p.1 ∙ ap Err p.2))
    (rest_stops {C = Unit {0}} (λ (es : Vec Entry). AreCosts f m next c.loop-slice.slice es.items)
    (λ x. IsStepping f limit m next i (slices (variables f)) c.loop-slice.minor) (shift_task f c.args.number m) (all_slices f)
    c.loop-slice.slice c.loop-slice.slice c.in_err-costs.field-0.0 k.1 l.0 l.1 (c.in_err-costs.ensures.shift f limit m next i k.0))

pub commit_shift-requires : goal.commit_shift-requires
commit_shift-requires c =
    let t = c.requires.turn in
    let f = form_of c.args.form.now in
    let i = c.loop-slice.invariant.0 t.0 t.1 t.2 t.3 t.4 in
    let here : c.loop-slice.slice < slices (variables f) = subst (λ n. c.loop-slice.slice < n) c.slice_count-slice-end.ensures c.loop-slice-test.true in
    record { turn = (f, t.0, t.1, t.2, t.3, i.0, here, (c.in_ok-costs.ensures.shift f t.0 t.1 t.2 t.3 i.0).1) }

pub loop-slice-preserved : goal.loop-slice-preserved
loop-slice-preserved c = (
  λ limit m next i h.
      let f = form_of c.args.form.now in
      let k = c.loop-slice.invariant.0 limit m next i h in
      let a = c.in_ok-costs.ensures.shift f limit m next i k.0 in
      let here : c.loop-slice.slice < slices (variables f) = subst (λ n. c.loop-slice.slice < n) c.slice_count-slice-end.ensures c.loop-slice-test.true in
      let l = nth_slice f c.loop-slice.slice here in (
        c.commit_shift.ensures.shifted f limit m next i k.0 a.1,
        rest_goes (shift_task f c.args.number m) (all_slices f) c.loop-slice.slice c.loop-slice.slice k.1 l.0 l.1 a.0,
      ),
  ap (λ v. v.items) c.commit_shift.ensures.steps ∙ c.loop-slice.invariant.1,
)

pub returns-clause-costs : goal.returns-clause-costs
returns-clause-costs c = λ limit m next i h.
    let f = form_of c.args.form.now in
    let k = c.loop-slice.invariant.0 limit m next i h in
    let all = c.slice_count-slice-end.ensures in
    let past = c.loop-slice-test.false in
    let low = c.loop-slice.auto.slice-end in
    let end : c.loop-slice.slice ≡ slices (variables f) = omega (arith, all, past, low) in
    let past_all : slices (variables f) ≤ c.loop-slice.slice = omega (arith, end) in (
      rest_ends (shift_task f c.args.number m) (all_slices f) c.loop-slice.slice k.1 (slices_end f c.loop-slice.slice past_all),
      subst (λ n. IsStepping f limit m next i n c.loop-slice.minor) end k.0,
    )
