use Rattle.std.proofs.Common.{◌∙◌, Result, Err, refl, sym, ap, subst}
use Rattle.std.proofs.lemmas.Result.{err_from_is_err_and}
use Rattle.pami_frac.specs.Answers.{Follows}
use Rattle.pami_frac.specs.declared.arithmetic.Refused.{Refused}
use Rattle.pami_frac.specs.declared.fault.Fault.{Fault}
use Rattle.pami_method.specs.Phases.{switch_refused}
use Rattle.pami_state.specs.State.{basis_of}
use Rattle.pami_form.specs.FormOf.{form_of}
use Rattle.pami_phase.specs.declared.switch.SwitchedState.{SwitchedState}
use Rattle.pami_phase.proofs.Solved.{fault_is, solved_is}
use Rattle.pami_phase.proofs.switch.switched.Goals as goal

pub returns-in_err-solved-clause-follows : goal.returns-in_err-solved-clause-follows
returns-in_err-solved-clause-follows g c = λ t fresh.
    let form = c.args.form.now in
    let p = err_from_is_err_and c.from_residual.result c.from_residual.ensures.1 in
    let So : Result SwitchedState (Fault Refused) → Type 0 = λ r. Follows (switch_refused (form_of form) (basis_of c.args.state) t) r in
    subst So (sym (p.1 ∙ ap Err p.2))
    (fault_is form.columns form.bounds form.costs (basis_of c.args.state) form.kept.form c.requires.basis c.requires.regular t c.in_err-solved.field-0.0 (c.in_err-solved.ensures.script t fresh))

pub returns-clause-solved : goal.returns-clause-solved
returns-clause-solved g c =
    let form = c.args.form.now in
    solved_is form.columns form.bounds form.costs (basis_of c.args.state) form.kept.form c.requires.basis c.requires.regular _ c.in_ok-solved.solved.values refl c.in_ok-solved.ensures.script (c.from_vec.ensures ∙ c.in_ok-to_dense.ensures)
    (λ t fresh. c.requires.reduced t fresh)
