use Rattle.std.proofs.Common.{ℕ, List, ◌∷◌, ◌++◌, sym, ap, ◌∙◌, subst, Option}
use Rattle.std.proofs.lemmas.Result.{on_ok_weaker}
use Rattle.pami_algebra.specs.Fraction.{Fraction}
use Rattle.pami_model.specs.Contents.{contents}
use Rattle.pami_state.specs.Columns.{HasBounds}
use Rattle.pami_phase.specs.Runs.{IsAnswerOf}
use Rattle.pami_model_form.specs.ModelForm.{model_form}
use Rattle.pami_lines.specs.Certificate.{objective_word}
use Rattle.pami_cli.specs.Solved.{IsReadable}
use Rattle.pami_cli.proofs.Told.{model_bounds}
use Rattle.pami_cli.proofs.Listed.{optimal_read, read_values, read_basis}
use Rattle.pami_cli.proofs.ObjectiveWords.{optimal_objective, infeasible_objective, direction_objective}
use Rattle.pami_cli.proofs.summary.push_objective.Goals as goal

pub values-requires-clause-values : goal.values-requires-clause-values
values-requires-clause-values c =
    let m = contents c.args.model.now in
    let f = model_form m in
    let st = c.in-Optimal.state in
    read_values f c.args.form.now.bounds st (model_bounds m c.args.form.now c.requires.form) (optimal_read f st c.in-Optimal.factor (subst (IsReadable f) c.in-Optimal.is c.requires.readable))

pub values-requires-clause-basis : goal.values-requires-clause-basis
values-requires-clause-basis c =
    let m = contents c.args.model.now in
    let f = model_form m in
    let st = c.in-Optimal.state in
    read_basis f c.as_slice.result.now st (subst (HasBounds f) (sym c.as_slice.ensures) (model_bounds m c.args.form.now c.requires.form))
    (optimal_read f st c.in-Optimal.factor (subst (IsReadable f) c.in-Optimal.is c.requires.readable))

pub returns-in-Some : goal.returns-in-Some
returns-in-Some c =
    let m = contents c.args.model.now in
    let f = model_form m in
    let st = c.in-Optimal.state in
    let has = subst (HasBounds f) (sym c.as_slice.ensures) (model_bounds m c.args.form.now c.requires.form) in
    on_ok_weaker c.push_fraction.result
    (λ p. λ a l.
    p ∙ ap (λ (t : Option Fraction). c.args.out.now.items ++ 32 ∷ objective_word t) (sym c.in-Some.is)
    ∙ ap (λ (w : List ℕ). c.args.out.now.items ++ 32 ∷ w)
    (optimal_objective m st c.in-Optimal.factor c.as_slice-in-Optimal-2.result.now c.as_slice-in-Optimal.result.now c.told_objective.result c.as_slice-in-Optimal.ensures
    c.told_objective.ensures.sum (λ s. c.as_slice-in-Optimal-2.ensures ∙ c.in_ok-values-in-Optimal.ensures.solved f has s) a
    (subst (λ x. IsAnswerOf f x a) c.in-Optimal.is l)))
    c.push_fraction.ensures

pub returns-in-Optimal : goal.returns-in-Optimal
returns-in-Optimal c =
    let m = contents c.args.model.now in
    let f = model_form m in
    let st = c.in-Optimal.state in
    let has = subst (HasBounds f) (sym c.as_slice.ensures) (model_bounds m c.args.form.now c.requires.form) in
    on_ok_weaker c.push_word.result
    (λ p. λ a l.
    p ∙ ap (λ (t : Option Fraction). c.args.out.now.items ++ 32 ∷ objective_word t) (sym c.in-None.is)
    ∙ ap (λ (w : List ℕ). c.args.out.now.items ++ 32 ∷ w)
    (optimal_objective m st c.in-Optimal.factor c.as_slice-in-Optimal-2.result.now c.as_slice-in-Optimal.result.now c.told_objective.result c.as_slice-in-Optimal.ensures
    c.told_objective.ensures.sum (λ s. c.as_slice-in-Optimal-2.ensures ∙ c.in_ok-values-in-Optimal.ensures.solved f has s) a
    (subst (λ x. IsAnswerOf f x a) c.in-Optimal.is l)))
    c.push_word.ensures

pub returns-in-Infeasible : goal.returns-in-Infeasible
returns-in-Infeasible c =
    let m = contents c.args.model.now in
    on_ok_weaker c.push_word-in-Infeasible.result
    (λ p. λ a l.
    p ∙ ap (λ (w : List ℕ). c.args.out.now.items ++ 32 ∷ w) (infeasible_objective m c.in-Infeasible.y a (subst (λ x. IsAnswerOf (model_form m) x a) c.in-Infeasible.is l)))
    c.push_word-in-Infeasible.ensures

pub returns-in-DualInfeasible : goal.returns-in-DualInfeasible
returns-in-DualInfeasible c =
    let m = contents c.args.model.now in
    on_ok_weaker c.push_word-in-DualInfeasible.result
    (λ p. λ a l.
    p ∙ ap (λ (w : List ℕ). c.args.out.now.items ++ 32 ∷ w)
    (direction_objective m c.in-DualInfeasible.state c.in-DualInfeasible.form a (subst (λ x. IsAnswerOf (model_form m) x a) c.in-DualInfeasible.is l)))
    c.push_word-in-DualInfeasible.ensures
