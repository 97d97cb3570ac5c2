-- The objective that a summary tells of an answer.
use Rattle.std.proofs.Common.{◌≡◌, ℕ, List, length, codes, Option, sym, ap, ◌∙◌}
use Rattle.pami_algebra.specs.Fraction.{Fraction}
use Rattle.pami_linear.specs.Lists.{get}
use Rattle.pami_script.specs.Script.{add_dot}
use Rattle.pami_theory.specs.Form.{zero_f}
use Rattle.pami_theory.specs.Fresh.{Fresh}
use Rattle.pami_method.specs.Phases as phases
use Rattle.pami_state.specs.declared.state.State.{State}
use Rattle.pami_state.specs.State.{IsSolvedAfresh}
use Rattle.pami_form.specs.declared.form.Form.{Form as ProgramForm}
use Rattle.pami_factor.specs.Value.{Product}
use Rattle.pami_phase.specs.declared.answer.Answer.TheVariants as answers
use Rattle.pami_phase.specs.Runs.{IsAnswerOf}
use Rattle.pami_model.specs.declared.list.Column.{Column}
use Rattle.pami_model.specs.Contents.{Contents}
use Rattle.pami_model_form.specs.ModelForm.{model_form, member}
use Rattle.pami_model_form.specs.Named.{named_of}
use Rattle.pami_lines.specs.Certificate.{kept_or_none, objective_in, objective_word}
use Rattle.pami_text.specs.Record.{answer_lines}
use Rattle.pami_cli.specs.Summary.{told_behind}
use Rattle.pami_cli.proofs.Summed.{infeasible_tells, direction_tells}

module _ (c : Contents) where
  abbrev pub objective_told : phases.Answer → List ℕ
  objective_told a = told_behind (codes "objective") (answer_lines (named_of c) a)

  -- the sum over the values of the last state
  pub optimal_objective : (state : State) (factor : Option Product) (values : List Fraction) (columns : List Column) (told : Option Fraction)
      → columns ≡ c.columns
      → told ≡ kept_or_none (add_dot (length columns) (λ j. member (λ (column : Column). column.cost) zero_f columns j) (get values) c.constant)
      → ((s : IsSolvedAfresh (model_form c) state) → values ≡ s.fresh.values)
      → (a : phases.Answer) → IsAnswerOf (model_form c) (answers.Optimal state factor) a → objective_word told ≡ objective_told a
  optimal_objective state factor values columns told p t v (phases.Optimal st s) l =
      ap objective_word
      (t ∙ ap (λ (cs : List Column). kept_or_none (add_dot (length cs) (λ j. member (λ (column : Column). column.cost) zero_f cs j) (get values) c.constant)) p
      ∙ ap (λ (x : List Fraction). objective_in (named_of c) (get x)) (v l.0.solved ∙ ap (λ (f : Fresh). f.values) l.0.fresh))
  optimal_objective state factor values columns told p t v (phases.Infeasible y) l = absurd l
  optimal_objective state factor values columns told p t v (phases.DualInfeasible st s) l = absurd l
  optimal_objective state factor values columns told p t v (phases.Limit st) l = absurd l
  optimal_objective state factor values columns told p t v (phases.Overflow r) l = absurd l

  pub infeasible_objective : (y : List Fraction) (a : phases.Answer) → IsAnswerOf (model_form c) (answers.Infeasible y) a → codes "-" ≡ objective_told a
  infeasible_objective y (phases.Infeasible z) l = sym (infeasible_tells (named_of c) z)
  infeasible_objective y (phases.Optimal st s) l = absurd l
  infeasible_objective y (phases.DualInfeasible st s) l = absurd l
  infeasible_objective y (phases.Limit st) l = absurd l
  infeasible_objective y (phases.Overflow r) l = absurd l

  pub direction_objective : (state : State) (boxes : ProgramForm) (a : phases.Answer) → IsAnswerOf (model_form c) (answers.DualInfeasible state boxes) a → codes "-" ≡ objective_told a
  direction_objective state boxes (phases.DualInfeasible st s) l = sym (direction_tells (named_of c) s.values)
  direction_objective state boxes (phases.Optimal st s) l = absurd l
  direction_objective state boxes (phases.Infeasible y) l = absurd l
  direction_objective state boxes (phases.Limit st) l = absurd l
  direction_objective state boxes (phases.Overflow r) l = absurd l
