use Rattle.std.proofs.Common.{◌<◌, sym, ap, ◌∙◌, subst, Err}
use Rattle.std.proofs.lemmas.List.{get_or_default}
use Rattle.std.proofs.lemmas.Result.{err_from_is_err_and}
use lib.IntN.{pos}
use Rattle.pami_algebra.specs.Operations.{of_int}
use Rattle.pami_linear.specs.Lists.{get}
use Rattle.pami_frac.specs.Signs.{is_zero}
use Rattle.pami_frac.specs.Arithmetic.{div_outcome}
use Rattle.pami_script.specs.Script.{then, sub_entries}
use Rattle.pami_lu.proofs.Restored.{passed_length}
use Rattle.pami_factor.proofs.Multiples.{value_read}
use Rattle.pami_factor.proofs.forward.place_value.Goals as goal

pub returns-in_err-rest : goal.returns-in_err-rest
returns-in_err-rest c = λ places earlier h.
    let s = c.args.step.now in
    let b = c.index-right-step.is ∙ get_or_default c.args.right.now s.row c.index-right-step.result (of_int (pos 0)) (subst (λ n. s.row < n) (sym c.requires.same) c.requires.row_low) in
    let p = err_from_is_err_and c.from_residual.result c.from_residual.ensures.1 in
    p.1 ∙ ap Err p.2
    ∙ sym (value_read places earlier s c.args.right.now c.args.xs.now c.entries.result.now (Err c.in_err-rest.field-0.0) h c.requires.kept (passed_length earlier s.row s.kept) c.entries.ensures
    (ap (λ r. then r (λ t. div_outcome t (get s.kept s.place))) (ap (sub_entries c.entries.result.now (get c.args.xs.now)) (sym b) ∙ sym c.in_err-rest.ensures)))

pub div-requires : goal.div-requires
div-requires c = ap is_zero c.at.ensures ∙ c.requires.nonzero

pub returns : goal.returns
returns c = λ places earlier h.
    let s = c.args.step.now in
    let b = c.index-right-step.is ∙ get_or_default c.args.right.now s.row c.index-right-step.result (of_int (pos 0)) (subst (λ n. s.row < n) (sym c.requires.same) c.requires.row_low) in
    sym (value_read places earlier s c.args.right.now c.args.xs.now c.entries.result.now c.div.result h c.requires.kept (passed_length earlier s.row s.kept) c.entries.ensures
    (ap (λ r. then r (λ t. div_outcome t (get s.kept s.place))) (ap (sub_entries c.entries.result.now (get c.args.xs.now)) (sym b) ∙ sym c.in_ok-rest.ensures)
    ∙ ap (div_outcome c.in_ok-rest.rest) (sym c.at.ensures) ∙ sym c.div.ensures))
