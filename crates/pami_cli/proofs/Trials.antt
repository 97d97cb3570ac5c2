-- A trial has one answer: one status and one text.
use Rattle.std.proofs.Common.{◌≡◌, ℕ, List, [], ◌∷◌, ◌++◌, None, Some, Result, Ok, Err, sym, ap, ◌∙◌, subst, refl, arith}
use Rattle.std.specs.Result.{OnOk}
use Rattle.pami_model.specs.Contents.{Contents}
use Rattle.pami_model_form.specs.ModelForm.{model_form}
use Rattle.pami_lines.specs.Line.{line, text}
use Rattle.pami_method.specs.Phases.{Record, Answer}
use Rattle.pami_method.proofs.RunExists.{has_run}
use Rattle.pami_method.proofs.Runs.{run_only}
use Rattle.pami_trial.specs.Transport.{trial_model}
use Rattle.pami_cli.specs.declared.status.Status.{Status}
use Rattle.pami_cli.specs.Answer.{HasStatus}
use Rattle.pami_form.specs.declared.form.WideBox.{WideBox}
use Rattle.pami_form.specs.Widths.{first_wide}
use Rattle.pami_cli.specs.Summary.{trial_line, outcome_line, counts_line, summary_lines}
use Rattle.pami_cli.specs.Trial.{default_options, default_lines, AnswersTrial, TellsRun}
use Rattle.pami_cli.proofs.Answers.{one_status, status_by}
use Rattle.pami_cli.proofs.TrialWidths.{trial_fits}

-- the summary of a run
abbrev summary_of : (seed sources sinks : ℕ) → Record → Answer → List ℕ
summary_of seed sources sinks told answer = text (summary_lines seed sources sinks (default_lines (trial_model seed sources sinks) told answer))

pub one_trial : (seed sources sinks : ℕ) (s t : Status) (w v : List ℕ) → AnswersTrial seed sources sinks s w → AnswersTrial seed sources sinks t v → (s ≡ t) × (w ≡ v)
one_trial seed sources sinks s t w v a b =
    let e = run_only (model_form (trial_model seed sources sinks)) default_options a.told b.told a.answer b.answer a.run b.run in (
      one_status b.answer s t (subst (λ x. HasStatus x s) e.1 a.has_status) b.has_status,
      a.written_is ∙ ap (λ told. summary_of seed sources sinks told a.answer) e.0 ∙ ap (summary_of seed sources sinks b.told) e.1 ∙ sym b.written_is,
    )

pub some_trial : (seed sources sinks : ℕ) → (s : Status) × (w : List ℕ) × AnswersTrial seed sources sinks s w
some_trial seed sources sinks =
    let r = has_run (model_form (trial_model seed sources sinks)) default_options (omega arith) in
    let s = status_by r.1 in (
      s.0,
      summary_of seed sources sinks r.0 r.1,
      record { told = r.0; answer = r.1; run = r.2; has_status = s.1; written_is = refl },
    )

-- what holds of every trial holds behind an answer
pub any_holds : {A E P : Type 0} (r : Result A E) → P → OnOk r P
any_holds (Ok x) p = p
any_holds (Err e) p = tt

-- the run of the drawn model, told behind the first line
pub trial_told : (c : Contents) (seed sources sinks : ℕ) (status : Status) (before after : List ℕ) → c ≡ trial_model seed sources sinks → before ≡ line (trial_line seed sources sinks)
    → TellsRun c status before after → AnswersTrial seed sources sinks status after
trial_told c seed sources sinks status before after e b t = go (subst (λ (m : Contents). TellsRun m status before after) e t)
  where
    go : TellsRun (trial_model seed sources sinks) status before after → AnswersTrial seed sources sinks status after
    go t = record {
      told = t.told;
      answer = t.answer;
      run = t.run;
      has_status = t.has_status;
      written_is =
          let lines = default_lines (trial_model seed sources sinks) t.told t.answer in
          t.told_is ∙ ap (λ (z : List ℕ). z ++ text (outcome_line lines ∷ counts_line lines ∷ [])) b;
    }

-- a drawn model has no width that doesn't fit
pub never_wide : (c : Contents) (seed sources sinks : ℕ) (box : WideBox) → c ≡ trial_model seed sources sinks → first_wide (model_form c).bounds ≡ Some box → ⊥
never_wide c seed sources sinks box e h =
    let fits : first_wide (model_form c).bounds ≡ None = ap (λ (m : Contents). first_wide (model_form m).bounds) e ∙ trial_fits seed sources sinks in
    let same : None ≡ Some box = sym fits ∙ h in
    absurd cc
