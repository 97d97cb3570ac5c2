use Rattle.std.proofs.Common.{◌∙◌, ap, Some}
use Rattle.pami_major.proofs.Keeping.{regular_lent, singular_has, made_of, anew_fits, anew_unfit, same_place}
use Rattle.pami_major.proofs.factors.head_factor.Goals as goal

pub unreachable-requires : goal.unreachable-requires
unreachable-requires g c =
    singular_has c.in-Err-Named-Singular.field-0 c.in-Err-Named-Singular.field-0-0 c.in-Err-Named-Singular.field-0-0-0 _
    c.in-Err-Named-Singular.ensures.singular
    c.in-Err-Named-Singular.field-0-is c.in-Err-Named-Singular.field-0-0-is
    (regular_lent c.args.form.now c.requires.ready.0 c.args.state.now c.as_slice-columns.result.now c.as_slice.result.now c.args.form.now.kept
    c.requires.ready.1
    c.as_slice-columns.ensures c.as_slice.ensures)

pub returns-in-Ok-clause-made : goal.returns-in-Ok-clause-made
returns-in-Ok-clause-made g c =
    made_of c.args.form.now c.requires.ready.0 c.args.state.now c.as_slice-columns.result.now c.as_slice.result.now c.of.result c.in-Ok.lu
    c.args.form.now.kept
    c.requires.ready.1 c.as_slice-columns.ensures c.as_slice.ensures c.in-Ok.ensures.script c.of.ensures.steps c.of.ensures.pivots

pub returns-in-Ok-clause-fits : goal.returns-in-Ok-clause-fits
returns-in-Ok-clause-fits g c =
    anew_fits c.args.form.now c.requires.ready.0 c.args.state.now c.as_slice-columns.result.now c.as_slice.result.now c.in-Ok.lu c.args.form.now.kept
    c.requires.ready.1 c.as_slice-columns.ensures c.as_slice.ensures c.in-Ok.ensures.script

pub returns-in-Err-Named-Refused-clause-refused : goal.returns-in-Err-Named-Refused-clause-refused
returns-in-Err-Named-Refused-clause-refused g c = λ place e.
    anew_unfit c.args.form.now c.requires.ready.0 c.args.state.now c.as_slice-columns.result.now c.as_slice.result.now c.in-Err-Named-Refused.field-0
    c.in-Err-Named-Refused.field-0-0 c.in-Err-Named-Refused.refused c.args.form.now.kept c.requires.ready.1 c.as_slice-columns.ensures c.as_slice.ensures
    c.in-Err-Named-Refused.ensures.script c.in-Err-Named-Refused.field-0-is c.in-Err-Named-Refused.field-0-0-is
    ∙ ap Some (same_place _ place e)
