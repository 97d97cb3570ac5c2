use Rattle.std.proofs.Common.{ap, ◌∙◌}
use Rattle.pami_algebra.specs.Operations.{neg_f}
use Rattle.pami_state.proofs.Small.{small_form, small_stands, small_reads}
use Rattle.pami_state.proofs.tests.begin.Goals as goal

pub start-requires : goal.start-requires
start-requires c =
    small_form c.in_ok-column.field-0 c.in_ok-column-2.field-0 c.in_ok-column-3.field-0 c.in_ok-column-4.field-0 c.args.bounds.now
    _ _ c.zero-zero.result
    c.in_ok-column.ensures.two
    c.in_ok-column-2.ensures.two
    (record { two = c.in_ok-column-3.ensures.two; first = c.in_ok-column-3.ensures.first ∙ c.negate-less.ensures ∙ ap neg_f c.one.ensures; second = c.in_ok-column-3.ensures.second ∙ c.zero-zero.ensures })
    (record { two = c.in_ok-column-4.ensures.two; first = c.in_ok-column-4.ensures.first ∙ c.zero-zero.ensures; second = c.in_ok-column-4.ensures.second ∙ c.negate-less.ensures ∙ ap neg_f c.one.ensures })
    c.type_inv.bounds c.requires c.zero-zero.ensures

pub returns-clause-stands : goal.returns-clause-stands
returns-clause-stands c = small_stands c.in_ok-column.field-0 c.in_ok-column-2.field-0 c.in_ok-column-3.field-0 c.in_ok-column-4.field-0 c.args.bounds.now _ c.in_ok-state.state c.in_ok-column.ensures.two c.type_inv.bounds c.in_ok-state.ensures.basis

pub returns-clause-basis : goal.returns-clause-basis
returns-clause-basis c =
    small_reads c.in_ok-column.field-0 c.in_ok-column-2.field-0 c.in_ok-column-3.field-0 c.in_ok-column-4.field-0 c.args.bounds.now _ c.in_ok-state.state c.in_ok-column.ensures.two c.type_inv.bounds c.in_ok-state.ensures.basis
