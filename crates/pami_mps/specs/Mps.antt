-- The bytes are an MPS text of a model, or have a first fault.
use Rattle.std.specs.Prelude.{◌≡◌, ℕ, ◌+◌, ◌≤◌, not, List, [], length, slice_index_or, take, Option, Some, Result, Ok, Err, if◌then◌else◌, nat_lt, false}
use Rattle.pami_frac.specs.declared.fault.Fault.{Fault}
use Rattle.pami_frac.specs.declared.fault.Fault.TheVariants as faults
use Rattle.pami_model.specs.declared.fault.FileFault.{FileFault}
use Rattle.pami_model.specs.declared.fault.FileKind.{FileKind}
use Rattle.pami_model.specs.declared.fault.FileKind.TheVariants as kinds
use Rattle.pami_model.specs.FirstFault.{AreGood, IsFirstFault}
use Rattle.pami_model.specs.Judgement.{wrong_if}
pub use Rattle.pami_model.specs.Rules.{byte_limit}
use Rattle.pami_model.specs.Contents.{Contents, contents_of}
use Rattle.pami_mps.specs.declared.kind.Section.TheVariants.{End}
use Rattle.pami_mps.specs.Line.{Line, text_lines, section_at, is_end}
use Rattle.pami_mps.specs.Seen.{seen}
use Rattle.pami_mps.specs.Judge.{judge_line}

abbrev pub blank : Line
blank = record { head = false; words = []; control = false }

-- what is wrong with the line at `i` after the lines before it
abbrev pub fault_at : List Line → ℕ → Option FileKind
fault_at ls i = judge_line (seen (take i ls)) (slice_index_or ls i blank)

-- the bytes are a text of the model with these contents: each line is good after the lines before it, ENDATA stands, and
-- the contents are what the lines give
pub record Mps (bytes : List ℕ) (c : Contents) : Type 0 where
  pub fits : length bytes ≤ byte_limit
  pub good : AreGood (fault_at (text_lines bytes)) (length (text_lines bytes))
  pub ended : section_at (text_lines bytes) ≡ End
  pub contents : c ≡ contents_of (seen (text_lines bytes)).draft

-- what is wrong at a place of the lines: with the line that stands there, or behind the last line that no ENDATA stood
abbrev pub wrong_at : List Line → ℕ → Option FileKind
wrong_at ls i = if nat_lt i (length ls) then fault_at ls i else wrong_if (not (is_end (section_at ls))) kinds.EndMissing

-- the same of a text: one that is too long isn't looked into
abbrev pub judged : List ℕ → ℕ → Option FileKind
judged bytes i = if nat_lt byte_limit (length bytes) then Some kinds.TooLong else wrong_at (text_lines bytes) i

-- lines are counted from 1, and a text that is too long has its fault in line 0
abbrev pub line_number : List ℕ → ℕ → ℕ
line_number bytes i = if nat_lt byte_limit (length bytes) then 0 else i + 1

-- the first fault of a text: its line, and what is wrong there first
abbrev pub FirstFault : List ℕ → FileFault → Type 0
FirstFault bytes fault = IsFirstFault (judged bytes) (line_number bytes) fault

-- a named fault is the first one; want of memory is free
abbrev pub IsRefused : {A : Type 0} → List ℕ → Result A (Fault FileFault) → Type 0
IsRefused bytes (Ok x) = Unit {0}
IsRefused bytes (Err (faults.Named fault)) = FirstFault bytes fault
IsRefused bytes (Err faults.OutOfMemory) = Unit {0}
