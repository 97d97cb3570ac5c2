-- A model has one answer: one status and one text.
use Rattle.std.proofs.Common.{◌≡◌, ℕ, ◌+◌, inl, inr, List, length, map, Option, None, Some, refl, sym, ap, ◌∙◌, subst}
use Rattle.std.proofs.lemmas.List.{length-append, length-map}
use Rattle.pami_method.specs.declared.words.Options.{Options}
use Rattle.pami_algebra.specs.Fraction.{Fraction}
use Rattle.pami_linear.specs.Lists.{get}
use Rattle.pami_model.specs.Contents.{Contents}
use Rattle.pami_model.specs.declared.list.Row.{Row}
use Rattle.pami_model.specs.declared.list.Column.{Column}
use Rattle.pami_theory.specs.Form.{variables}
use Rattle.pami_theory.specs.Certificate.{IsDualPoint}
use Rattle.pami_theory.proofs.Farkas.{no_dual_point}
use Rattle.pami_method.specs.Walk.{IsOptions}
use Rattle.pami_method.specs.Phases.{Record, Answer, Optimal, Infeasible, DualInfeasible, Limit, Overflow, IsRun}
use Rattle.pami_method.proofs.Answers.{run_holds}
use Rattle.pami_method.proofs.RunExists.{has_run}
use Rattle.pami_method.proofs.Runs.{run_only}
use Rattle.pami_form.specs.declared.form.WideBox.{WideBox}
use Rattle.pami_form.specs.Widths.{first_wide}
use Rattle.pami_cli.specs.declared.status.Status.{Status}
use Rattle.pami_cli.specs.declared.status.Status.TheVariants as statuses
use Rattle.pami_model_form.specs.ModelForm.{model_form}
use Rattle.pami_cli.specs.Text.{run_text, wide_text}
use Rattle.pami_cli.specs.declared.wish.Wish.{Wish}
use Rattle.pami_cli.specs.Answer.{HasStatus, AnswersRun, AnswersWide, AnswersModel}

-- an answer has one status
pub one_status : (a : Answer) (s t : Status) → HasStatus a s → HasStatus a t → s ≡ t
one_status (Optimal st x) s t h k = h ∙ sym k
one_status (Infeasible y) s t h k = h ∙ sym k
one_status (DualInfeasible st x) s t h k = h ∙ sym k
one_status (Limit st) s t h k = h ∙ sym k
one_status (Overflow r) s t h k = h ∙ sym k

one_run : (c : Contents) (wish : Wish) (s t : Status) (w v : List ℕ) → AnswersRun c wish s w → AnswersRun c wish t v → (s ≡ t) × (w ≡ v)
one_run c wish s t w v a b =
    let e = run_only (model_form c) wish.options a.told b.told a.answer b.answer a.run b.run in (
      one_status b.answer s t (subst (λ x. HasStatus x s) e.1 a.has_status) b.has_status,
      a.written_is ∙ ap (λ told. run_text c wish told a.answer) e.0 ∙ ap (run_text c wish b.told) e.1 ∙ sym b.written_is,
    )

-- a width fits or doesn't
some_wide : {x : WideBox} {A : Type 0} → None ≡ Some x → A
some_wide e = absurd cc

same_wide : {x y : WideBox} → Some x ≡ Some y → x ≡ y
same_wide e = cc

pub one_model_answer : (c : Contents) (wish : Wish) (s t : Status) (w v : List ℕ) → AnswersModel c wish s w → AnswersModel c wish t v → (s ≡ t) × (w ≡ v)
one_model_answer c wish s t w v (inl a) (inl b) = one_run c wish s t w v a.run b.run
one_model_answer c wish s t w v (inl a) (inr b) = some_wide (sym a.widths ∙ b.first)
one_model_answer c wish s t w v (inr a) (inl b) = some_wide (sym b.widths ∙ a.first)
one_model_answer c wish s t w v (inr a) (inr b) = (
  a.status_is ∙ sym b.status_is,
  a.written_is ∙ ap (λ (box : WideBox). wide_text c box.variable) (same_wide (sym a.first ∙ b.first)) ∙ sym b.written_is,
)

-- there is one, as the form has a run
pub status_by : (a : Answer) → (s : Status) × HasStatus a s
status_by (Optimal st x) = (statuses.Good, refl)
status_by (Infeasible y) = (statuses.Infeasible, refl)
status_by (DualInfeasible st x) = (statuses.DualInfeasible, refl)
status_by (Limit st) = (statuses.Limit, refl)
status_by (Overflow r) = (statuses.Overflow, refl)

some_by_widths : (c : Contents) (wish : Wish) → IsOptions wish.options → (x : Option WideBox) → first_wide (model_form c).bounds ≡ x → (s : Status) × (w : List ℕ) × AnswersModel c wish s w
some_by_widths c wish o (Some box) first =
    (statuses.File, wide_text c box.variable, inr (record { box = box; first = first; status_is = refl; written_is = refl }))
some_by_widths c wish o None fits =
    let r = has_run (model_form c) wish.options o.some_row in
    let s = status_by r.1 in (
      s.0,
      run_text c wish r.0 r.1,
      inl (record { widths = fits; run = record { told = r.0; answer = r.1; run = r.2; has_status = s.1; written_is = refl } }),
    )

pub some_model_answer : (c : Contents) (wish : Wish) → IsOptions wish.options → (s : Status) × (w : List ℕ) × AnswersModel c wish s w
some_model_answer c wish o = some_by_widths c wish o (first_wide (model_form c).bounds) refl

-- ---- which answers have a status
pub runs_refuse_nothing : (a : Answer) → HasStatus a statuses.File → ⊥
runs_refuse_nothing (Optimal st x) h = absurd cc
runs_refuse_nothing (Infeasible y) h = absurd cc
runs_refuse_nothing (DualInfeasible st x) h = absurd cc
runs_refuse_nothing (Limit st) h = absurd cc
runs_refuse_nothing (Overflow r) h = absurd cc

pub refused_model_is_wide : (c : Contents) (wish : Wish) (w : List ℕ) → AnswersModel c wish statuses.File w → AnswersWide c statuses.File w
refused_model_is_wide c wish w (inl a) = absurd (runs_refuse_nothing a.run.answer a.run.has_status)
refused_model_is_wide c wish w (inr b) = b

-- a form has bounds for each of its variables
bounds_count : (c : Contents) → length (model_form c).bounds ≡ variables (model_form c)
bounds_count c =
    length-append (map (λ (column : Column). column.bounds) c.columns) (map (λ (row : Row). row.bounds) c.rows)
    ∙ ap (λ n. n + length (map (λ (row : Row). row.bounds) c.rows)) (length-map c.columns (λ (column : Column). column.bounds))
    ∙ ap (λ n. length c.columns + n) (length-map c.rows (λ (row : Row). row.bounds))

-- a dual infeasible answer has a ray, which no point of the dual program goes with
no_dual : (c : Contents) (options : Options) (told : Record) (a : Answer) → HasStatus a statuses.DualInfeasible → IsRun (model_form c) options told a → (y d : ℕ → Fraction) → ¬ IsDualPoint (model_form c) y d
no_dual c options told (Optimal st x) e h = absurd cc
no_dual c options told (Infeasible y) e h = absurd cc
no_dual c options told (DualInfeasible st x) e h = λ y d. no_dual_point (model_form c) (get x.values) y d (run_holds (model_form c) options told (DualInfeasible st x) h (bounds_count c))
no_dual c options told (Limit st) e h = absurd cc
no_dual c options told (Overflow r) e h = absurd cc

wide_status : (c : Contents) (w : List ℕ) → AnswersWide c statuses.DualInfeasible w → ⊥
wide_status c w b = let e = b.status_is in absurd cc

pub dual_infeasible_model : (c : Contents) (wish : Wish) (w : List ℕ) → AnswersModel c wish statuses.DualInfeasible w → (y d : ℕ → Fraction) → ¬ IsDualPoint (model_form c) y d
dual_infeasible_model c wish w (inl a) = no_dual c wish.options a.run.told a.run.answer a.run.has_status a.run.run
dual_infeasible_model c wish w (inr b) = absurd (wide_status c w b)
