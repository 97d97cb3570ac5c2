-- What the program takes the bytes of FILE as, where it checks.
use Rattle.std.specs.Prelude.{◌≡◌, ℕ, List, None}
use Rattle.pami_model.specs.Contents.{Contents, contents}
use Rattle.pami_model_form.specs.ModelForm.{model_form}
use Rattle.pami_form.specs.Widths.{first_wide}
use Rattle.pami_cli.specs.declared.reading.Taken.{Taken}
use Rattle.pami_cli.specs.declared.reading.Taken.TheVariants.{Accepted, Refused}
use Rattle.pami_cli.specs.declared.status.Status.TheVariants.{File}
use Rattle.pami_cli.specs.Reading.{Format}
use Rattle.pami_cli.specs.Answer.{AnswersWide}
use Rattle.pami_cli.specs.Run.{IsAccepted, Refuses}

-- a model of which the bytes are a text, with widths that fit; or the answer that they are refused with
abbrev pub IsTaken : Format → List ℕ → Taken → Type 0
IsTaken format bytes (Accepted model) = IsAccepted format bytes (contents model)
IsTaken format bytes (Refused answer) = (answer.status ≡ File) × Refuses format bytes answer.text.items

-- the model, with widths that fit; or the answer that one which doesn't fit is refused with
abbrev pub IsFitting : Contents → Taken → Type 0
IsFitting c (Accepted model) = (contents model ≡ c) × (first_wide (model_form c).bounds ≡ None)
IsFitting c (Refused answer) = (answer.status ≡ File) × AnswersWide c File answer.text.items
