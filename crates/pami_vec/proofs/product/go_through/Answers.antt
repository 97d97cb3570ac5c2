use Rattle.std.proofs.Common.{sym, ◌∙◌, refl}
use Rattle.std.proofs.lemmas.List.{get_or_default}
use Rattle.pami_theory.specs.Form.{zero_f}
use Rattle.pami_vec.specs.Pivots.{column_pivot}
use Rattle.pami_vec.proofs.ProductForm.{quotient_read, pivot_goes, pivot_stops, pivot_rests}
use Rattle.pami_vec.proofs.product.go_through.Goals as goal

pub returns-then-is_zero-clause-script : goal.returns-then-is_zero-clause-script
returns-then-is_zero-clause-script c =
    pivot_rests (column_pivot c.args.pivot.now) c.args.values.now
    (sym (c.index-values-place.is ∙ get_or_default c.args.values.now c.args.pivot.now.place c.index-values-place.result zero_f c.requires.0)
    ∙ c.if-is_zero.ensures.value.0 refl)

pub returns-in-Ok-clause-script : goal.returns-in-Ok-clause-script
returns-in-Ok-clause-script c =
    let q = column_pivot c.args.pivot.now in
    pivot_goes q c.args.values.now c.entries.result.now c.in_ok-factor.factor c.change_members.new.members c.entries.ensures c.requires.1 c.requires.0
    (quotient_read q c.args.values.now c.index-values-place.result c.at.result c.in_ok-factor.factor
    c.requires.0 c.index-values-place.is c.at.ensures c.in_ok-factor.ensures)
    c.in-Ok.ensures

pub returns-in-Err-clause-script : goal.returns-in-Err-clause-script
returns-in-Err-clause-script c =
    let q = column_pivot c.args.pivot.now in
    pivot_stops q c.args.values.now c.entries.result.now c.in_ok-factor.factor c.in-Err.stop.place c.in-Err.stop.refused
    c.entries.ensures c.requires.1 c.requires.0
    (quotient_read q c.args.values.now c.index-values-place.result c.at.result c.in_ok-factor.factor
    c.requires.0 c.index-values-place.is c.at.ensures c.in_ok-factor.ensures)
    c.in-Err.ensures
