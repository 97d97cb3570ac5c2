use Rattle.std.proofs.Common.{◌∙◌, ◌≡◌, sym, ap, subst, map, length, List, arith}
use Rattle.pami_algebra.specs.Fraction.{Fraction}
use Rattle.pami_frac.specs.declared.list.Bounds.{Bounds}
use Rattle.pami_theory.specs.Boxes.{box}
use Rattle.pami_vec.specs.Turned.{AreEven}
use Rattle.pami_form.specs.Form.{KeepsForm, widths_of}
use Rattle.pami_form.proofs.Even.{even_columns}
use Rattle.pami_form.proofs.Boxings.{keeps_boxes, no_wide}
use Rattle.pami_form.proofs.boxes.phase_one_form.Goals as goal

pub unreachable-requires : goal.unreachable-requires
unreachable-requires c =
    let form = c.args.form.now in
    no_wide (c.as_slice-3.result.now) c.in_ok-bounds.bounds c.as_slice-5.result.now c.in-Err-Named.field-0 c.in-Err-Named.field-0-0 c.as_slice-5.ensures c.in_ok-bounds.ensures c.in-Err-Named.field-0-is c.in-Err-Named.ensures.follows

pub invariant_of-result-clause-kept : goal.invariant_of-result-clause-kept
invariant_of-result-clause-kept c =
    let form = c.args.form.now in
    let bounds : List Bounds = c.in_ok-bounds.bounds in
    subst (λ (cs : List (List Fraction)). KeepsForm form.rows cs bounds c.from_vec-costs.result c.in-Ok.widths) (sym (c.in_ok-columns.ensures ∙ c.as_slice.ensures))
    (subst (λ (ds : List Fraction). KeepsForm form.rows form.columns bounds ds c.in-Ok.widths) (sym (c.from_vec-costs.ensures ∙ c.in_ok-from_slice.ensures.items ∙ c.as_slice-4.ensures))
    (keeps_boxes form.rows form.columns form.bounds bounds form.costs c.in-Ok.widths form.widths form.kept (c.in_ok-bounds.ensures ∙ ap (λ (bs : List Bounds). map box bs) c.as_slice-3.ensures)
    (c.in-Ok.ensures.widths ∙ ap widths_of c.as_slice-5.ensures)))

pub of-requires-clause-few : goal.of-requires-clause-few
of-requires-clause-few c = let few = c.args.form.now.kept.form.few in let n = ap length c.as_slice-2.ensures in omega arith

pub of-requires-clause-even : goal.of-requires-clause-even
of-requires-clause-even c = subst AreEven (sym c.as_slice-2.ensures) (even_columns c.args.form.now.columns c.args.form.now.kept.form.tall)

pub invariant_of-result-clause-turned : goal.invariant_of-result-clause-turned
invariant_of-result-clause-turned c = c.in_ok-by_row.ensures ∙ c.as_slice-2.ensures ∙ sym (c.in_ok-columns.ensures ∙ c.as_slice.ensures)
