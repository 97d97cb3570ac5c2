use Rattle.std.proofs.Common.{◌<◌, List, length, inr, sym, ap, ◌∙◌, subst}
use Rattle.std.specs.Global.{Vec}
use Rattle.pami_algebra.specs.Fraction.{Fraction}
use Rattle.pami_frac.specs.declared.list.Entry.{Entry}
use Rattle.pami_theory.specs.Fresh.{row_at}
use Rattle.pami_state.specs.Columns.{column_of}
use Rattle.pami_minor.specs.Follow.{IsPriceOf}
use Rattle.pami_form.specs.FormOf.{form_of}
use Rattle.pami_method.specs.Task.{refusal}
use Rattle.pami_method.specs.Scripts.{price_script}
use Rattle.pami_method.specs.declared.words.Spot.TheVariants as spots
use Rattle.pami_batch.proofs.Told.{one_told}
use Rattle.pami_batch.proofs.Slices.{as_long, slice_answer}
use Rattle.pami_batch.proofs.minors_parts.price_one.Goals as goal

pub rho-rho-requires : goal.rho-rho-requires
rho-rho-requires c =
    let t = c.requires.turn in
    record { place = inr (t.4.picked.0, t.4.picked.1, t.4.picked.2.place ∙ t.5) }

pub price_slice-requires-clause-rows : goal.price_slice-requires-clause-rows
price_slice-requires-clause-rows c = λ v l.
    let t = c.requires.turn in
    let form = c.args.form.now in
    let same = form.turned in
    ap (λ (cs : List (List Fraction)). length (column_of cs v)) same
    ∙ as_long form t.0 t.1 t.2 t.3 c.args.minor.now c.rho-rho.result.now v form.kept t.4 (c.rho-rho.ensures.picked (form_of form) t.0 t.1 t.2 t.3 t.4 t.5 ∙ ap (row_at t.1.fresh) (sym t.5))
    (subst (λ (cs : List (List Fraction)). v < length cs) same l)

pub returns : goal.returns
returns c = record {
  price = λ limit r row n h e.
      let form = c.args.form.now in
      one_told (λ (es : Vec Entry). IsPriceOf (form_of form) r row c.args.slice es.items) (spots.Price c.args.number c.args.slice)
      (refusal (price_script (form_of form) r.basis (row_at r.fresh row.place) c.args.slice)) c.price_slice.result c.at.result c.at.ensures
      (slice_answer form limit r row n c.args.minor.now c.stands.result.now c.rho-rho.result.now c.args.slice form.by_row c.price_slice.result
      form.kept h c.stands.ensures (c.rho-rho.ensures.picked (form_of form) limit r row n h e ∙ ap (row_at r.fresh) (sym e)) form.turned c.price_slice.ensures.script);
}
