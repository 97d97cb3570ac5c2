use Rattle.std.proofs.Common.{sym, subst}
use Rattle.pami_theory.specs.Form as theory
use Rattle.pami_phase.specs.declared.answer.Answer.TheVariants as answers
use Rattle.pami_cli.specs.Solved.{IsReadable}
use Rattle.pami_cli.proofs.Ranged.{optimal_state}
use Rattle.pami_cli.proofs.answer.push_wanted.Goals as goal

pub push_range_lines-requires-clause-optimal : goal.push_range_lines-requires-clause-optimal
push_range_lines-requires-clause-optimal c =
    let st = c.in-Optimal.state in
    optimal_state c.args.form.now st c.in-Optimal.factor
    (subst (λ (f : theory.Form). IsReadable f (answers.Optimal st c.in-Optimal.factor)) (sym c.requires.form) (subst (IsReadable _) c.in-Optimal.is c.requires.readable))
