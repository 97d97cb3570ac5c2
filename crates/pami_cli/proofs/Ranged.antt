-- The lines of ranges in the text of a run.
use Rattle.std.proofs.Common.{◌≡◌, ℕ, ◌<◌, ◌^◌, Bool, true, false, List, [], ◌++◌, Option, sym, ap, ◌∙◌, subst}
use Rattle.std.proofs.lemmas.List.{append-nil}
use Rattle.pami_algebra.specs.Fraction.{Fraction}
use Rattle.pami_linear.specs.Lists.{get}
use Rattle.pami_method.specs.declared.words.Place.{Place}
use Rattle.pami_theory.specs.Form.{Form, variables}
use Rattle.pami_theory.specs.Basis.{Basis}
use Rattle.pami_theory.specs.Fresh.{Fresh, IsFresh, IsDualFeasible, HasInfeasible}
use Rattle.pami_method.specs.Phases as phases
use Rattle.pami_state.specs.declared.state.State.{State}
use Rattle.pami_state.specs.State.{basis_of}
use Rattle.pami_state.proofs.Formed.{variables_are}
use Rattle.pami_form.specs.declared.form.Form.{Form as ProgramForm}
use Rattle.pami_form.specs.FormOf.{form_of}
use Rattle.pami_factor.specs.Value.{Product}
use Rattle.pami_phase.specs.declared.answer.Answer.TheVariants as answers
use Rattle.pami_phase.specs.Runs.{IsAnswerOf}
use Rattle.pami_model.specs.Contents.{Contents}
use Rattle.pami_model_form.specs.ModelForm.{model_form}
use Rattle.pami_lines.specs.Line.{text}
use Rattle.pami_range.specs.declared.span.Span.{Span}
use Rattle.pami_range.specs.Scripts.{cost_spans, bound_spans}
use Rattle.pami_range.specs.Optimal.{IsOptimal}
use Rattle.pami_range.specs.RangeLines.{lines_of_spans, range_lines}
use Rattle.pami_cli.specs.Text.{ranges_behind}
use Rattle.pami_cli.specs.Solved.{EndsBest, IsReadable}

-- a form of the program has fewer than 2^32 variables
pub few_variables : (form : ProgramForm) → variables (form_of form) < 2 ^ 32
few_variables form = subst (λ n. n < 2 ^ 32) (sym (variables_are form.columns form.bounds form.costs form.kept.form)) form.kept.form.few

-- the last state of an optimal answer is optimal for its form
pub optimal_state : (form : ProgramForm) (state : State) (factor : Option Product) → IsReadable (form_of form) (answers.Optimal state factor) → IsOptimal form state
optimal_state form state factor r = go r.given r.is r.best
  where
    go : (a : phases.Answer) → IsAnswerOf (form_of form) (answers.Optimal state factor) a → EndsBest (form_of form) a → IsOptimal form state
    go (phases.Optimal st s) l e = record {
      basis = l.0.basis;
      solved = l.0.solved;
      dual = subst (IsDualFeasible (form_of form)) l.0.same e.0;
      primal = subst (λ (x : Fresh). ¬ HasInfeasible (form_of form) (basis_of state) (get x.values)) (sym l.0.fresh)
          (subst (λ (b : Basis). ¬ HasInfeasible (form_of form) b (get s.values)) l.0.same e.1);
    }
    go (phases.Infeasible y) l e = absurd l
    go (phases.DualInfeasible st s) l e = absurd l
    go (phases.Limit st) l e = absurd l
    go (phases.Overflow r) l e = absurd l

-- the lines of spans that were found on the program's form are those of the model's ranges
pub spans_are : (c : Contents) (f : Form) (b : Basis) (s : Fresh) (o r : List ℕ) (costs : List Span) (bounds : List (Option Span)) → f ≡ model_form c
    → costs ≡ cost_spans f b s → bounds ≡ bound_spans f b s → r ≡ o ++ text (lines_of_spans c costs bounds) → r ≡ o ++ text (range_lines c b s)
spans_are c f b s o r costs bounds e h k p =
    p ∙ ap (λ (x : List Span). o ++ text (lines_of_spans c x bounds)) (h ∙ ap (λ (g : Form). cost_spans g b s) e)
    ∙ ap (λ (x : List (Option Span)). o ++ text (lines_of_spans c (cost_spans (model_form c) b s) x)) (k ∙ ap (λ (g : Form). bound_spans g b s) e)

module _ (c : Contents) (o r : List ℕ) where
  -- behind an optimal answer, where they are wanted
  pub wanted_lines : (state : State) (factor : Option Product)
      → ((s : Fresh) → IsFresh (model_form c) (basis_of state) s → r ≡ o ++ text (range_lines c (basis_of state) s))
      → (a : phases.Answer) → IsAnswerOf (model_form c) (answers.Optimal state factor) a → r ≡ o ++ text (ranges_behind c true a)
  wanted_lines state factor h (phases.Optimal st s) l =
      h s (subst (IsFresh (model_form c) (basis_of state)) l.0.fresh l.0.solved.solved)
      ∙ ap (λ (b : Basis). o ++ text (range_lines c b s)) (sym l.0.same)
  wanted_lines state factor h (phases.Infeasible y) l = absurd l
  wanted_lines state factor h (phases.DualInfeasible st s) l = absurd l
  wanted_lines state factor h (phases.Limit st) l = absurd l
  wanted_lines state factor h (phases.Overflow refused) l = absurd l

  nothing : r ≡ o → r ≡ o ++ []
  nothing e = e ∙ sym (append-nil o)

  -- and nothing anywhere else
  pub unwanted_lines : r ≡ o → (a : phases.Answer) → r ≡ o ++ text (ranges_behind c false a)
  unwanted_lines e (phases.Optimal st s) = nothing e
  unwanted_lines e (phases.Infeasible y) = nothing e
  unwanted_lines e (phases.DualInfeasible st s) = nothing e
  unwanted_lines e (phases.Limit st) = nothing e
  unwanted_lines e (phases.Overflow refused) = nothing e

  pub infeasible_without : (wanted : Bool) (y : List Fraction) → r ≡ o → (a : phases.Answer) → IsAnswerOf (model_form c) (answers.Infeasible y) a → r ≡ o ++ text (ranges_behind c wanted a)
  infeasible_without wanted y e (phases.Infeasible z) l = nothing e
  infeasible_without wanted y e (phases.Optimal st s) l = absurd l
  infeasible_without wanted y e (phases.DualInfeasible st s) l = absurd l
  infeasible_without wanted y e (phases.Limit st) l = absurd l
  infeasible_without wanted y e (phases.Overflow refused) l = absurd l

  pub dual_infeasible_without : (wanted : Bool) (state : State) (boxes : ProgramForm) → r ≡ o → (a : phases.Answer) → IsAnswerOf (model_form c) (answers.DualInfeasible state boxes) a → r ≡ o ++ text (ranges_behind c wanted a)
  dual_infeasible_without wanted state boxes e (phases.DualInfeasible st s) l = nothing e
  dual_infeasible_without wanted state boxes e (phases.Optimal st s) l = absurd l
  dual_infeasible_without wanted state boxes e (phases.Infeasible y) l = absurd l
  dual_infeasible_without wanted state boxes e (phases.Limit st) l = absurd l
  dual_infeasible_without wanted state boxes e (phases.Overflow refused) l = absurd l

  pub limit_without : (wanted : Bool) (state : State) → r ≡ o → (a : phases.Answer) → IsAnswerOf (model_form c) (answers.Limit state) a → r ≡ o ++ text (ranges_behind c wanted a)
  limit_without wanted state e (phases.Limit st) l = nothing e
  limit_without wanted state e (phases.Optimal st s) l = absurd l
  limit_without wanted state e (phases.Infeasible y) l = absurd l
  limit_without wanted state e (phases.DualInfeasible st s) l = absurd l
  limit_without wanted state e (phases.Overflow refused) l = absurd l

  pub overflow_without : (wanted : Bool) (place : Place) → r ≡ o → (a : phases.Answer) → IsAnswerOf (model_form c) (answers.Overflow place) a → r ≡ o ++ text (ranges_behind c wanted a)
  overflow_without wanted place e (phases.Overflow refused) l = nothing e
  overflow_without wanted place e (phases.Optimal st s) l = absurd l
  overflow_without wanted place e (phases.Infeasible y) l = absurd l
  overflow_without wanted place e (phases.DualInfeasible st s) l = absurd l
  overflow_without wanted place e (phases.Limit st) l = absurd l
