-- What a run answers on the words of a call and the bytes under the names of its files, and how a call may end.
use Rattle.std.specs.Prelude.{◌≡◌, ℕ, ◌⊎◌, Bool, List, [], ◌∷◌, ◌++◌, Option, None, Some, IfSome, Ok, Err}
use Rattle.pami_edge.specs.Outside.{Files, HasFile}
use Rattle.pami_edge.specs.Calls.{ShelfCall, SinkCall, ShelfFailed, SinkFailed, Wrote, WrotePart, WroteNothing}
use Rattle.pami_words.specs.declared.command.Command.{Command}
use Rattle.pami_words.specs.declared.command.Command.TheVariants.{Solve, Check, Trial}
use Rattle.pami_words.specs.Words.{read_outcome}
use Rattle.pami_method.specs.declared.words.Options.{Options}
use Rattle.pami_model.specs.declared.fault.FileFault.{FileFault}
use Rattle.pami_model.specs.Contents.{Contents}
use Rattle.pami_model_form.specs.ModelForm.{model_form}
use Rattle.pami_form.specs.Widths.{first_wide}
use Rattle.pami_cli.specs.declared.status.Status.{Status}
use Rattle.pami_cli.specs.declared.status.Status.TheVariants.{Good, Words, File, ReadFault, WriteFault, OutOfMemory, Infeasible, DualInfeasible}
use Rattle.pami_cli.specs.Reading.{Format, format_by, IsTextOf, IsFirstFaultOf}
use Rattle.pami_cli.specs.Answer.{AnswersModel, AnswersWide, RunsSoundly}
use Rattle.pami_cli.specs.Judged.{Judges}
use Rattle.pami_cli.specs.Trial.{AnswersTrial, TrialHolds}
use Rattle.pami_cli.specs.declared.wish.Wish.{Wish}
use Rattle.pami_cli.specs.Text.{bad_words_text, refused_text, read_fault_text}

-- ---- reading

-- a read fault was told, and the shelf failed
pub record TellsReadFault (shelf : ShelfCall) (status : Status) (written : List ℕ) : Type 0 where
  pub status_is : status ≡ ReadFault
  pub failed : ShelfFailed shelf
  pub written_is : written ≡ read_fault_text

-- ---- solve

-- the bytes are a text of a model that is answered so
pub record IsModelAnswer (format : Format) (bytes : List ℕ) (wish : Wish) (status : Status) (written : List ℕ) : Type 0 where
  pub model : Contents
  pub text_of : IsTextOf format bytes model
  pub answer : AnswersModel model wish status written

-- the bytes have a first fault, and are refused at it
pub record IsRefused (format : Format) (bytes : List ℕ) (status : Status) (written : List ℕ) : Type 0 where
  pub fault : FileFault
  pub first : IsFirstFaultOf format bytes fault
  pub status_is : status ≡ File
  pub written_is : written ≡ refused_text fault

-- what `solve` answers on the bytes of FILE, read in this format, with these options and with ranges where they are wanted
abbrev pub Answers : Format → List ℕ → Wish → Status → List ℕ → Type 0
Answers format bytes wish status written =
    IsModelAnswer format bytes wish status written ⊎ IsRefused format bytes status written

-- and what the run of its model is answered is sound
abbrev pub SolvesSoundly : Format → List ℕ → Options → Type 0
SolvesSoundly format bytes options = (c : Contents) → IsTextOf format bytes c → RunsSoundly c options

-- FILE is no text of a model, or is one with a width that doesn't fit
abbrev pub Refuses : Format → List ℕ → List ℕ → Type 0
Refuses format bytes written =
    IsRefused format bytes File written ⊎ ((c : Contents) × IsTextOf format bytes c × AnswersWide c File written)

-- the statuses of answers that have a certificate
abbrev pub HasCertificate : Status → Type 0
HasCertificate status = (status ≡ Good) ⊎ ((status ≡ Infeasible) ⊎ (status ≡ DualInfeasible))

-- ---- check

-- the bytes are a text of this model, all of whose widths fit
pub record IsAccepted (format : Format) (bytes : List ℕ) (c : Contents) : Type 0 where
  pub text_of : IsTextOf format bytes c
  pub widths : first_wide (model_form c).bounds ≡ None

-- FILE is accepted, and the bytes of CERT are judged against its model; `under` says which bytes these are
pub record IsCertAnswer (format : Format) (bytes : List ℕ) (under : List ℕ → Type 0) (status : Status) (written : List ℕ) : Type 0 where
  pub model : Contents
  pub accepted : IsAccepted format bytes model
  pub text : List ℕ
  pub stands : under text
  pub judged : Judges model text status written

-- what `check` answers on the bytes of FILE, read in this format; of CERT, which isn't read where FILE is refused, `under`
-- says which bytes it has
abbrev pub Checks : Format → List ℕ → (List ℕ → Type 0) → Status → List ℕ → Type 0
Checks format bytes under status written =
    ((status ≡ File) × Refuses format bytes written) ⊎ IsCertAnswer format bytes under status written

-- the same where CERT has these bytes
abbrev pub ChecksText : Format → (bytes text : List ℕ) → Status → List ℕ → Type 0
ChecksText format bytes text status written = Checks format bytes (λ (x : List ℕ). x ≡ text) status written

-- what is due behind an accepted FILE: a read fault, or what the bytes under CERT are answered against its model
abbrev pub IsCertDue : Contents → List ℕ → ShelfCall → Status → List ℕ → Type 0
IsCertDue c cert shelf status written =
    TellsReadFault shelf status written
    ⊎ ((text : List ℕ) × HasFile shelf.files cert text × Judges c text status written)

-- what is due behind the bytes of FILE: a read fault, or the answer on these and on those under CERT
abbrev pub IsCheckDue : Format → List ℕ → List ℕ → ShelfCall → Status → List ℕ → Type 0
IsCheckDue format bytes cert shelf status written =
    TellsReadFault shelf status written ⊎ Checks format bytes (HasFile shelf.files cert) status written

-- ---- commands

-- the words ask for this command; they are in no table
abbrev pub AskFor : List (List ℕ) → Command → Type 0
AskFor words command = read_outcome words ≡ Ok command

abbrev pub AreBad : List (List ℕ) → Type 0
AreBad words = read_outcome words ≡ Err (record {})

-- the names of the files that a command reads, in this order
abbrev pub files_of : Command → List (List ℕ)
files_of (Solve file lp options ranging) = file ∷ []
files_of (Check file cert lp) = file ∷ cert ∷ []
files_of (Trial seed sources sinks) = []

-- FILE: its name, and the format that it is read in
pub record ModelFile : Type 0 where
  pub name : List ℕ
  pub format : Format

-- FILE of a command, if it reads one
abbrev pub file_of : Command → Option ModelFile
file_of (Solve file lp options ranging) = Some (record { name = file; format = format_by lp })
file_of (Check file cert lp) = Some (record { name = file; format = format_by lp })
file_of (Trial seed sources sinks) = None

-- these bytes stand under the name of FILE, where the command reads one
abbrev pub HasBytes : Option Files → Command → List ℕ → Type 0
HasBytes files command bytes = IfSome (file_of command) (λ (file : ModelFile). HasFile files file.name bytes)

-- what a run is asked for
abbrev pub wish_of : Options → Bool → Wish
wish_of options ranging = record { options = options; ranging = ranging }

-- what a command answers on the bytes of FILE; `under` says which bytes stand under which name. A trial has no FILE.
abbrev pub CommandAnswers : Command → List ℕ → (List ℕ → List ℕ → Type 0) → Status → List ℕ → Type 0
CommandAnswers (Solve file lp options ranging) bytes under status written =
    Answers (format_by lp) bytes (wish_of options ranging) status written
CommandAnswers (Check file cert lp) bytes under status written = Checks (format_by lp) bytes (under cert) status written
CommandAnswers (Trial seed sources sinks) bytes under status written = AnswersTrial seed sources sinks status written

-- what `solve` answers on the bytes of FILE is sound, and what `trial` tells holds against the model that it draws; a
-- judgement says itself what it is worth
abbrev pub AnswersSoundly : Command → List ℕ → Type 0
AnswersSoundly (Solve file lp options ranging) bytes = SolvesSoundly (format_by lp) bytes options
AnswersSoundly (Check file cert lp) bytes = Unit {0}
AnswersSoundly (Trial seed sources sinks) bytes = TrialHolds seed sources sinks

-- ---- calls

-- a call: its words, and what the shelf and the sink did in it
pub record Call : Type 0 where
  pub words : List (List ℕ)
  pub shelf : ShelfCall
  pub sink : SinkCall

abbrev pub call : List (List ℕ) → ShelfCall → SinkCall → Call
call words shelf sink = record { words = words; shelf = shelf; sink = sink }

-- the words ask for a command, and this is its answer on bytes that stand under the names of its files, if any; it is sound
pub record IsAnswered (call : Call) (status : Status) (written : List ℕ) : Type 0 where
  pub command : Command
  pub bytes : List ℕ
  pub asks : AskFor call.words command
  pub under : HasBytes call.shelf.files command bytes
  pub answer : CommandAnswers command bytes (HasFile call.shelf.files) status written
  pub sound : AnswersSoundly command bytes

-- the words are in the table, and the shelf failed
pub record IsReadFault (call : Call) (status : Status) (written : List ℕ) : Type 0 where
  pub command : Command
  pub asks : AskFor call.words command
  pub fault : TellsReadFault call.shelf status written

-- the words are in no table
pub record AreBadWords (call : Call) (status : Status) (written : List ℕ) : Type 0 where
  pub bad : AreBad call.words
  pub status_is : status ≡ Words
  pub written_is : written ≡ bad_words_text

-- the status and the whole text that are due where neither memory nor the sink fails
abbrev pub IsDue : Call → Status → List ℕ → Type 0
IsDue call status written = AreBadWords call status written ⊎ (IsReadFault call status written ⊎ IsAnswered call status written)

-- what is due was written whole, with its status; or the sink failed, and some front of it was written
abbrev pub IsWrittenBy : SinkCall → Status → Status → List ℕ → Type 0
IsWrittenBy sink result due written =
    ((result ≡ due) × Wrote sink written)
    ⊎ ((result ≡ WriteFault) × SinkFailed sink × WrotePart sink written)

-- a text that `Due` allows was written as far as the sink took it
pub record IsWritten (Due : Status → List ℕ → Type 0) (sink : SinkCall) (result : Status) : Type 0 where
  pub due : Status
  pub written : List ℕ
  pub is_due : Due due written
  pub as_far : IsWrittenBy sink result due written

-- memory ran out and nothing was written, or what is due was written as far as the sink took it
abbrev pub EndsBy : (Status → List ℕ → Type 0) → SinkCall → Status → Type 0
EndsBy Due sink result = ((result ≡ OutOfMemory) × WroteNothing sink) ⊎ IsWritten Due sink result

abbrev pub Ends : Call → Status → Type 0
Ends call result = EndsBy (IsDue call) call.sink result

-- memory ran out, or the command's answer on bytes that stand under the names of its files was written whole
abbrev pub IsComplete : Call → Status → Type 0
IsComplete call result = (result ≡ OutOfMemory) ⊎ ((written : List ℕ) × IsAnswered call result written × Wrote call.sink written)

-- the words ask for a command whose FILE is refused, on bytes that stand under its name, and this was written
pub record IsFileRefused (call : Call) : Type 0 where
  pub command : Command
  pub file : ModelFile
  pub bytes : List ℕ
  pub written : List ℕ
  pub asks : AskFor call.words command
  pub reads : file_of command ≡ Some file
  pub under : HasFile call.shelf.files file.name bytes
  pub refuses : Refuses file.format bytes written
  pub wrote : Wrote call.sink written

-- the words ask for `check`, its FILE is accepted, and CERT was answered with this status, on bytes that stand under their names
pub record IsCertJudged (call : Call) (status : Status) : Type 0 where
  pub file : List ℕ
  pub cert : List ℕ
  pub lp : Bool
  pub bytes : List ℕ
  pub written : List ℕ
  pub asks : AskFor call.words (Check file cert lp)
  pub under : HasFile call.shelf.files file bytes
  pub answer : IsCertAnswer (format_by lp) bytes (HasFile call.shelf.files cert) status written
  pub wrote : Wrote call.sink written

-- this status, or one of the faults that may take the place of any
abbrev pub IsOrFault : Status → Status → Type 0
IsOrFault result status = (result ≡ status) ⊎ ((result ≡ ReadFault) ⊎ ((result ≡ WriteFault) ⊎ (result ≡ OutOfMemory)))

-- a list begins with these
abbrev pub IsFront : List (List ℕ) → List (List ℕ) → Type 0
IsFront front names = (left : List (List ℕ)) × (front ++ left ≡ names)

-- no name, or the first of those that a command reads
abbrev pub AsksFor : List (List ℕ) → List (List ℕ) → Type 0
AsksFor words asked = (asked ≡ []) ⊎ ((command : Command) × AskFor words command × IsFront asked (files_of command))
