-- What `solve` answers on a model: the run of its form, with the text of its record and the status of its answer; or, where a
-- width doesn't fit, that it is refused.
use Rattle.std.specs.Prelude.{◌≡◌, ℕ, ◌⊎◌, List, None, Some, IfSome}
use Rattle.pami_linear.specs.Lists.{get}
use Rattle.pami_model.specs.Contents.{Contents}
use Rattle.pami_theory.specs.Fresh.{Fresh}
use Rattle.pami_theory.specs.Certificate.{HoldsOptimal, HoldsInfeasible, HoldsDualInfeasible, HoldsObjective}
use Rattle.pami_method.specs.declared.words.Options.{Options}
use Rattle.pami_method.specs.Phases.{Record, Answer, Optimal, Infeasible, DualInfeasible, Limit, Overflow, IsRun}
use Rattle.pami_lines.specs.Certificate.{objective_in}
use Rattle.pami_cli.specs.declared.status.Status.{Status}
use Rattle.pami_cli.specs.declared.status.Status.TheVariants as statuses
use Rattle.pami_model_form.specs.ModelForm.{model_form}
use Rattle.pami_model_form.specs.Named.{named_of}
use Rattle.pami_form.specs.declared.form.WideBox.{WideBox}
use Rattle.pami_form.specs.Widths.{first_wide}
use Rattle.pami_cert.specs.declared.cert.Cert.{Cert}
use Rattle.pami_cert.specs.Sized.{IsSized}
use Rattle.pami_cert.specs.CertText.{Fits}
use Rattle.pami_cli.specs.CertOf.{cert_of}
use Rattle.pami_cli.specs.Text.{run_text, wide_text}
use Rattle.pami_cli.specs.declared.wish.Wish.{Wish}

-- the status that goes with an answer
abbrev pub HasStatus : Answer → Status → Type 0
HasStatus (Optimal st s) status = status ≡ statuses.Good
HasStatus (Infeasible y) status = status ≡ statuses.Infeasible
HasStatus (DualInfeasible st s) status = status ≡ statuses.DualInfeasible
HasStatus (Limit st) status = status ≡ statuses.Limit
HasStatus (Overflow refused) status = status ≡ statuses.Overflow

-- what an answer tells holds against the model: values and reduced costs with the objective, or a combination of the rows
-- that no point meets, or a direction along which the cost falls without end
pub record HoldsBest (c : Contents) (s : Fresh) : Type 0 where
  pub certificate : HoldsOptimal (model_form c) (get s.values) (get s.reduced)
  pub objective : HoldsObjective (named_of c).constant (named_of c).counts.columns (named_of c).cost (get s.values) (objective_in (named_of c) (get s.values))

abbrev pub HoldsFor : Contents → Answer → Type 0
HoldsFor c (Optimal st s) = HoldsBest c s
HoldsFor c (Infeasible y) = HoldsInfeasible (model_form c) (get y)
HoldsFor c (DualInfeasible st s) = HoldsDualInfeasible (model_form c) (get s.values)
HoldsFor c (Limit st) = Unit {0}
HoldsFor c (Overflow refused) = Unit {0}

-- the answer's certificate, where it has one, can be read again: it has a member for each column and row, and its fractions
-- fit
abbrev pub IsCertified : Contents → Answer → Type 0
IsCertified c answer = IfSome (cert_of c answer) (λ (cert : Cert). IsSized c cert × Fits cert)

-- and so an answer is sound
pub record IsSound (c : Contents) (answer : Answer) : Type 0 where
  pub holds : HoldsFor c answer
  pub certified : IsCertified c answer

-- what the run of the model's form is answered holds
abbrev pub RunsTruly : Contents → Options → Type 0
RunsTruly c options = (told : Record) (answer : Answer) → IsRun (model_form c) options told answer → HoldsFor c answer

-- what the run of the model's form is answered is sound, where every width fits
abbrev pub RunsSoundly : Contents → Options → Type 0
RunsSoundly c options =
    first_wide (model_form c).bounds ≡ None → (told : Record) (answer : Answer) → IsRun (model_form c) options told answer → IsSound c answer

-- the run of the model's form
pub record AnswersRun (c : Contents) (wish : Wish) (status : Status) (written : List ℕ) : Type 0 where
  pub told : Record
  pub answer : Answer
  pub run : IsRun (model_form c) wish.options told answer
  pub has_status : HasStatus answer status
  pub written_is : written ≡ run_text c wish told answer

-- every width of the form fits
pub record AnswersFitting (c : Contents) (wish : Wish) (status : Status) (written : List ℕ) : Type 0 where
  pub widths : first_wide (model_form c).bounds ≡ None
  pub run : AnswersRun c wish status written

-- a width doesn't fit: the model is refused at the least such variable
pub record AnswersWide (c : Contents) (status : Status) (written : List ℕ) : Type 0 where
  pub box : WideBox
  pub first : first_wide (model_form c).bounds ≡ Some box
  pub status_is : status ≡ statuses.File
  pub written_is : written ≡ wide_text c box.variable

-- a status and a whole text
abbrev pub AnswersModel : Contents → Wish → Status → List ℕ → Type 0
AnswersModel c wish status written = AnswersFitting c wish status written ⊎ AnswersWide c status written
