use Rattle.std.proofs.Common.{sym, ap, ◌∙◌, arith}
use Rattle.pami_state.specs.Columns.{column_of}
use Rattle.pami_state.proofs.Formed.{variables_are, coefficient_is}
use Rattle.pami_theory.specs.Form.{coefficient}
use Rattle.pami_form.specs.FormOf.{form_of}
use Rattle.pami_minor.proofs.ReachReady.{entering_low}
use Rattle.pami_minor.proofs.Reaching.{reach_follows}
use Rattle.pami_minor.proofs.reach.reach_at.Goals as goal

pub returns-clause-fresh : goal.returns-clause-fresh
returns-clause-fresh c = λ limit m next b.
    let f = form_of c.args.form.now in
    let k = c.args.form.now.kept in
    let n = variables_are c.args.form.now.columns c.args.form.now.bounds c.args.form.now.costs k.form in
    let low = entering_low f limit m next c.args.step.now b.pivot b.step_is in
    reach_follows f limit m next (column_of c.args.form.now.columns c.args.step.now.entering) c.args.step.now c.args.alpha_pq.now c.args.rho_p.now c.args.weight_p
    c.args.row.now c.reach_row.result b
    (λ q l. sym (coefficient_is c.args.form.now.columns c.args.form.now.bounds c.args.form.now.costs c.args.step.now.entering q k.form (omega (arith, low, n)) l)
    ∙ ap (λ v. coefficient f v q) b.step_is.entering)
    c.reach_row.ensures
