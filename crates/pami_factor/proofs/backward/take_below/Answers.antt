use Rattle.std.proofs.Common.{length, set, refl, sym, ap, ◌∙◌, subst, Ok, Err}
use Rattle.std.proofs.lemmas.List.{get_or_default}
use Rattle.std.proofs.lemmas.Result.{err_from_is_err_and}
use lib.IntN.{pos}
use Rattle.pami_algebra.specs.Operations.{of_int}
use Rattle.pami_linear.specs.Lists.{get}
use Rattle.pami_frac.specs.Answers.{BecomesBy}
use Rattle.pami_script.specs.Dense.{Rising}
use Rattle.pami_script.specs.Script.{then, sub_entries}
use Rattle.pami_factor.specs.Reads.{row_value}
use Rattle.pami_factor.proofs.Multiples.{row_sum}
use Rattle.pami_factor.proofs.backward.take_below.Goals as goal

pub subtract_entries-requires : goal.subtract_entries-requires
subtract_entries-requires c = subst (λ n. Rising 0 n c.entries.result.now) c.requires.same c.entries.ensures.rising

pub returns-in_err-value-clause-script : goal.returns-in_err-value-clause-script
returns-in_err-value-clause-script c = λ ts h.
    let s = c.args.step.now in
    let v = c.args.members.now in
    let m = length v in
    let x = c.index-members-step.is ∙ get_or_default v s.row c.index-members-step.result (of_int (pos 0)) c.requires.low in
    let q = err_from_is_err_and c.from_residual.result c.from_residual.ensures.1 in
    subst (BecomesBy (row_value ts s v) v) (sym (q.1 ∙ ap Err q.2))
    (ap (λ r. then r (λ t. Ok (set v s.row t)))
    (row_sum m ts s.multipliers v c.entries.result.now (get v s.row) h c.requires.same refl c.entries.ensures ∙ ap (sub_entries c.entries.result.now (get v)) (sym x) ∙ sym c.in_err-value.ensures))

pub returns-clause-script : goal.returns-clause-script
returns-clause-script c = λ ts h.
    let s = c.args.step.now in
    let v = c.args.members.now in
    let m = length v in
    let x = c.index-members-step.is ∙ get_or_default v s.row c.index-members-step.result (of_int (pos 0)) c.requires.low in
    ap (λ r. then r (λ t. Ok (set v s.row t)))
    (row_sum m ts s.multipliers v c.entries.result.now (get v s.row) h c.requires.same refl c.entries.ensures ∙ ap (sub_entries c.entries.result.now (get v)) (sym x) ∙ sym c.in_ok-value.ensures)
