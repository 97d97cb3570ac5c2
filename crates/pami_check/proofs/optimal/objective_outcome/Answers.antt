use Rattle.std.proofs.Common.{◌∙◌, ap, Ok, Err}
use Rattle.std.proofs.lemmas.Result.{err_from_is_err_and}
use Rattle.pami_script.specs.Script.{then}
use Rattle.pami_theory.specs.Start.{is_same}
use Rattle.pami_model.specs.Contents.{contents}
use Rattle.pami_check.proofs.Parts.{objective_same}
use Rattle.pami_check.proofs.optimal.objective_outcome.Goals as goal

pub returns-in_err-total : goal.returns-in_err-total
returns-in_err-total c =
    let p = err_from_is_err_and c.from_residual.result c.from_residual.ensures.1 in
    let same = objective_same (contents c.args.model.now) c.as_slice.result.now c.args.x.now c.as_slice.ensures in
    p.1 ∙ ap Err p.2 ∙ ap (λ s. (then) s (λ t. Ok (is_same t c.args.told))) (c.in_err-total.ensures ∙ same)

pub returns : goal.returns
returns c =
    let same = objective_same (contents c.args.model.now) c.as_slice.result.now c.args.x.now c.as_slice.ensures in
    ap Ok c.is_same.ensures ∙ ap (λ s. (then) s (λ t. Ok (is_same t c.args.told))) (c.in_ok-total.ensures ∙ same)
