-- The answer of a form, and the lines that are printed of it.
use Rattle.std.proofs.Common.{◌≡◌, ℕ, ◌+◌, List, ◌++◌, length, sym, ap, ◌∙◌, subst, Option}
use Rattle.std.specs.List.{All}
use Rattle.pami_algebra.specs.Fraction.{Fraction}
use Rattle.pami_frac.specs.declared.list.Bounds.{Bounds}
use Rattle.pami_theory.specs.Form.{Form}
use Rattle.pami_theory.specs.Basis.{IsBasis}
use Rattle.pami_theory.specs.Boxes.{boxes_of}
use Rattle.pami_theory.specs.Fresh.{Fresh}
use Rattle.pami_method.specs.Walk as method
use Rattle.pami_method.specs.Phases as phases
use Rattle.pami_form.specs.declared.form.Form.{Form as ProgramForm}
use Rattle.pami_state.specs.declared.state.State.{State}
use Rattle.pami_state.specs.Columns.{bounds_form, HasBounds}
use Rattle.pami_state.specs.State.{basis_of, IsSolvedAfresh}
use Rattle.pami_state.proofs.Formed.{has_bounds, basis_by_bounds}
use Rattle.pami_state.proofs.Known.{values_by_head}
use Rattle.pami_lines.specs.Line.{text}
use Rattle.pami_text.specs.Record.{answer_lines}
use Rattle.pami_form.specs.FormOf.{form_of}
use Rattle.pami_phase.specs.declared.answer.Answer.{Answer}
use Rattle.pami_phase.specs.declared.answer.Answer.TheVariants as answers
use Rattle.pami_phase.specs.Runs.{IsLast, IsAnswerOf}
use Rattle.pami_model.specs.Contents.{Contents}
use Rattle.pami_model_form.specs.ModelForm.{model_form}
use Rattle.pami_model_form.specs.Named.{named_of}
use Rattle.pami_cli.specs.Text.{optimal_text, dual_infeasible_text}
use Rattle.pami_method.specs.declared.words.Place.{Place}
use Rattle.pami_cert.specs.Sized.{IsSized}
use Rattle.pami_factor.specs.Value.{Product}
use Rattle.pami_cert.specs.CertText.{Fit, Fits}
use Rattle.pami_cli.specs.CertOf.{best_cert, direction_cert}
use Rattle.pami_cli.specs.Answer.{IsCertified}
use Rattle.pami_cli.specs.Solved.{IsReadable}
use Rattle.pami_cli.proofs.Certs.{cut_sized, best_sized}

-- ---- states that are read
-- a state that is solved afresh at a basis of the form
pub record IsRead (f : Form) (st : State) : Type 0 where
  pub basis : IsBasis f (basis_of st)
  pub solved : IsSolvedAfresh f st

last_read : (f : Form) (state : State) (st : method.State) (s : Fresh) → IsLast f state st s → IsRead f state
last_read f state st s l = record { basis = l.basis; solved = l.solved }

pub optimal_read : (f : Form) (state : State) (factor : Option Product) → IsReadable f (answers.Optimal state factor) → IsRead f state
optimal_read f state factor r = go r.given r.is
  where
    go : (a : phases.Answer) → IsAnswerOf f (answers.Optimal state factor) a → IsRead f state
    go (phases.Optimal st s) l = last_read f state st s l.0
    go a is = absurd is

pub boxes_read : (f : Form) (state : State) (boxes : ProgramForm) → IsReadable f (answers.DualInfeasible state boxes) → IsRead (boxes_of f) state × (form_of boxes ≡ boxes_of f)
boxes_read f state boxes r = go r.given r.is
  where
    go : (a : phases.Answer) → IsAnswerOf f (answers.DualInfeasible state boxes) a → IsRead (boxes_of f) state × (form_of boxes ≡ boxes_of f)
    go (phases.DualInfeasible st s) l = (last_read (boxes_of f) state st s l.0, l.1)
    go a is = absurd is

module _ (f : Form) (bounds : List Bounds) (st : State) (has : HasBounds f bounds) (r : IsRead f st) where
  pub read_values : length st.values ≡ length st.head
  read_values = values_by_head f st r.basis r.solved

  pub read_basis : IsBasis (bounds_form (length st.head) bounds) (basis_of st)
  read_basis = basis_by_bounds f (basis_of st) bounds has r.basis

-- the boxes have the bounds of their form
pub boxes_bounds : (f : Form) (boxes : ProgramForm) → form_of boxes ≡ boxes_of f → HasBounds (boxes_of f) boxes.bounds
boxes_bounds f boxes is = subst (λ g. HasBounds g boxes.bounds) is (has_bounds boxes.columns boxes.bounds boxes.costs boxes.kept.form)

-- ---- lines
-- the lines of an answer with a state are those of the method's
module _ (c : Contents) (o r : List ℕ) where
  abbrev pub IsTextOfAnswer : Answer → Type 0
  IsTextOfAnswer answer = (a : phases.Answer) → IsAnswerOf (model_form c) answer a → r ≡ o ++ text (answer_lines (named_of c) a)

  pub optimal_lines_are : (state : State) (factor : Option Product) (values : List Fraction) → ((s : IsSolvedAfresh (model_form c) state) → values ≡ s.fresh.values) → r ≡ o ++ optimal_text c values state.reduced (basis_of state) → IsTextOfAnswer (answers.Optimal state factor)
  optimal_lines_are state factor values v e (phases.Optimal st s) l =
      e ∙ ap (λ x. o ++ optimal_text c x state.reduced (basis_of state)) (v l.0.solved)
      ∙ ap (λ x. o ++ optimal_text c l.0.solved.fresh.values x (basis_of state)) l.0.solved.reduced
      ∙ ap (λ (x : Fresh). o ++ optimal_text c x.values x.reduced (basis_of state)) l.0.fresh
      ∙ ap (λ b. o ++ optimal_text c s.values s.reduced b) (sym l.0.same)
  optimal_lines_are state factor values v e a l = absurd l

  pub dual_infeasible_lines_are : (state : State) (boxes : ProgramForm) (z : List Fraction) → ((s : IsSolvedAfresh (boxes_of (model_form c)) state) → z ≡ s.fresh.values) → r ≡ o ++ dual_infeasible_text c z
      → IsTextOfAnswer (answers.DualInfeasible state boxes)
  dual_infeasible_lines_are state boxes z v e (phases.DualInfeasible st s) l =
      e ∙ ap (λ x. o ++ dual_infeasible_text c x) (v l.0.solved ∙ ap (λ (x : Fresh). x.values) l.0.fresh)
  dual_infeasible_lines_are state boxes z v e a l = absurd l

-- ---- certificates
-- the certificate of an answer with a state is that of the method's answer
module _ (c : Contents) where
  pub optimal_certified : (state : State) (factor : Option Product) (values : List Fraction) → ((s : IsSolvedAfresh (model_form c) state) → values ≡ s.fresh.values)
      → length c.columns + length c.rows ≡ length values → length state.reduced ≡ length values → Fits (best_cert c values state.reduced)
      → (a : phases.Answer) → IsAnswerOf (model_form c) (answers.Optimal state factor) a → IsCertified c a
  optimal_certified state factor values v n m fits (phases.Optimal st s) l =
      let x : values ≡ s.values = v l.0.solved ∙ ap (λ (f : Fresh). f.values) l.0.fresh in
      let d : state.reduced ≡ s.reduced = l.0.solved.reduced ∙ ap (λ (f : Fresh). f.reduced) l.0.fresh in
      subst (λ (z : List Fraction). IsSized c (best_cert c s.values z) × Fits (best_cert c s.values z)) d
      (subst (λ (z : List Fraction). IsSized c (best_cert c z state.reduced) × Fits (best_cert c z state.reduced)) x (best_sized c values state.reduced n m, fits))
  optimal_certified state factor values v n m fits a l = absurd l

  pub infeasible_certified : (y : List Fraction) → length c.rows ≡ length y → All Fit y → (a : phases.Answer) → IsAnswerOf (model_form c) (answers.Infeasible y) a → IsCertified c a
  infeasible_certified y n fits (phases.Infeasible z) l =
      subst (λ (z : List Fraction). (length z ≡ length c.rows) × All Fit z) l.0 (sym n, fits)
  infeasible_certified y n fits a l = absurd l

  pub dual_infeasible_certified : (state : State) (boxes : ProgramForm) (z : List Fraction) → ((s : IsSolvedAfresh (boxes_of (model_form c)) state) → z ≡ s.fresh.values)
      → length c.columns + length c.rows ≡ length z → Fits (direction_cert c z) → (a : phases.Answer) → IsAnswerOf (model_form c) (answers.DualInfeasible state boxes) a → IsCertified c a
  dual_infeasible_certified state boxes z v n fits (phases.DualInfeasible st s) l =
      subst (λ (x : List Fraction). IsSized c (direction_cert c x) × Fits (direction_cert c x)) (v l.0.solved ∙ ap (λ (f : Fresh). f.values) l.0.fresh) (cut_sized c z n, fits)
  dual_infeasible_certified state boxes z v n fits a l = absurd l

  pub limit_certified : (state : State) (a : phases.Answer) → IsAnswerOf (model_form c) (answers.Limit state) a → IsCertified c a
  limit_certified state (phases.Limit st) l = tt
  limit_certified state a l = absurd l

  pub overflow_certified : (place : Place) (a : phases.Answer) → IsAnswerOf (model_form c) (answers.Overflow place) a → IsCertified c a
  overflow_certified place (phases.Overflow r) l = tt
  overflow_certified place a l = absurd l
