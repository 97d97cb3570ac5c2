-- What `trial` answers: a summary of the run of the model that its seed draws, with the options of a run where none are given.
use Rattle.std.specs.Prelude.{◌≡◌, ℕ, List, [], ◌∷◌, ◌++◌}
use Rattle.pami_model.specs.Contents.{Contents}
use Rattle.pami_model_form.specs.ModelForm.{model_form}
use Rattle.pami_model_form.specs.Named.{named_of}
use Rattle.pami_lines.specs.Line.{text}
use Rattle.pami_method.specs.declared.words.Options.{Options}
use Rattle.pami_method.specs.Phases.{Record, Answer, IsRun}
use Rattle.pami_text.specs.Record.{run_lines}
use Rattle.pami_words.specs.Table.{default_batch, default_refactor, default_limit}
use Rattle.pami_trial.specs.Transport.{trial_model}
use Rattle.pami_cli.specs.declared.status.Status.{Status}
use Rattle.pami_cli.specs.Answer.{HasStatus, RunsTruly}
use Rattle.pami_cli.specs.Summary.{outcome_line, counts_line, summary_lines}

-- the options where none are given
abbrev pub default_options : Options
default_options = record { batch = default_batch; refactor = default_refactor; limit = default_limit }

-- the lines that `solve` writes of a run with these options
abbrev pub default_lines : Contents → Record → Answer → List (List (List ℕ))
default_lines c told answer = run_lines (named_of c) default_options told answer

-- the run of the drawn model's form, and the summary of its lines
pub record AnswersTrial (seed sources sinks : ℕ) (status : Status) (written : List ℕ) : Type 0 where
  pub told : Record
  pub answer : Answer
  pub run : IsRun (model_form (trial_model seed sources sinks)) default_options told answer
  pub has_status : HasStatus answer status
  pub written_is : written ≡ text (summary_lines seed sources sinks (default_lines (trial_model seed sources sinks) told answer))

-- the run's answer holds against the drawn model
abbrev pub TrialHolds : (seed sources sinks : ℕ) → Type 0
TrialHolds seed sources sinks = RunsTruly (trial_model seed sources sinks) default_options

-- the run of this model's form, of which the last two lines of the summary were put behind what stood there
pub record TellsRun (c : Contents) (status : Status) (before after : List ℕ) : Type 0 where
  pub told : Record
  pub answer : Answer
  pub run : IsRun (model_form c) default_options told answer
  pub has_status : HasStatus answer status
  pub told_is : after ≡ before ++ text (outcome_line (default_lines c told answer) ∷ counts_line (default_lines c told answer) ∷ [])
