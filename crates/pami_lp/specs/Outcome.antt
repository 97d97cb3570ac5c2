-- What a text gives, token by token: a model's contents or its first fault.
use Rattle.std.specs.Prelude.{ℕ, ◌+◌, Bool, true, false, if◌then◌else◌, nat_lt, List, [], ◌∷◌, length, Option, None, Some, Result, Ok, Err}
use Rattle.pami_frac.specs.Answers.{then as chain}
use Rattle.pami_frac.specs.declared.fault.Fault.{Fault}
use Rattle.pami_frac.specs.declared.fault.Fault.TheVariants as faults
use Rattle.pami_edge.specs.Lines.{lines_of}
use Rattle.pami_model.specs.declared.fault.Crossed.{Crossed}
use Rattle.pami_model.specs.declared.fault.FileKind.{FileKind}
use Rattle.pami_model.specs.declared.fault.FileKind.TheVariants as kinds
use Rattle.pami_model.specs.declared.fault.FileFault.{FileFault}
pub use Rattle.pami_model.specs.Rules.{byte_limit}
use Rattle.pami_model.specs.Draft.{Draft, first_crossed}
use Rattle.pami_model.specs.Contents.{Contents, contents_of}
use Rattle.pami_lp_text.specs.declared.kind.Class.{Class}
use Rattle.pami_lp_text.specs.declared.kind.Class.TheVariants as classes
use Rattle.pami_lp.specs.declared.kind.Place.{Place}
use Rattle.pami_lp.specs.declared.kind.Place.TheVariants as places
use Rattle.pami_lp.specs.declared.reader.Reader.{Reader}
use Rattle.pami_lp_text.specs.Lexeme.{text_words}
use Rattle.pami_lp_text.specs.Classes.{Symbol, symbols}
use Rattle.pami_lp.specs.Acts.{Seen}
use Rattle.pami_lp.specs.Run.{start, step}

abbrev pub fault_at : ℕ → FileKind → FileFault
fault_at line kind = record { line = line; kind = kind }

-- the class of the first of these tokens; behind the last, that of a byte of no token
abbrev pub first_class : List Symbol → Class
first_class [] = classes.Bad
first_class (t ∷ ts) = t.class

abbrev pub is_end : Place → Bool
is_end places.End = true
is_end p = false

-- a token was taken, or it wasn't
abbrev pub taken : Result Seen FileKind → ℕ → (Seen → Result (Draft × ℕ) FileFault) → Result (Draft × ℕ) FileFault
taken (Err kind) line rest = Err (fault_at line kind)
taken (Ok s) line rest = if is_end s.place then Ok (s.draft, line) else rest s

-- what tokens give with the line of `end`, from what is known, where the text has so many lines; behind `end` nothing is read
abbrev pub reads : Seen → ℕ → List Symbol → Result (Draft × ℕ) FileFault
reads s lines [] = Err (fault_at (lines + 1) kinds.EndMissing)
reads s lines (t ∷ ts) = taken (step s t.class (first_class ts) t.text) t.line (λ s. reads s lines ts)

-- a column whose bounds are crossed is found at the end
abbrev pub closed_by : Option Crossed → Draft → ℕ → Result Contents FileFault
closed_by None d line = Ok (contents_of d)
closed_by (Some x) d line = Err (fault_at line kinds.Crossed)

abbrev pub closed : Draft × ℕ → Result Contents FileFault
closed p = closed_by (first_crossed p.0) p.0 p.1

-- what a text gives
abbrev pub outcome : List ℕ → Result Contents FileFault
outcome bytes =
    if nat_lt byte_limit (length bytes) then Err (fault_at 0 kinds.TooLong)
    else chain (reads start (length (lines_of bytes)) (symbols (text_words bytes))) closed

-- a reader behind `end`, and its line
abbrev pub ended : Reader × ℕ → Draft × ℕ
ended p = (p.0.builder, p.1)

abbrev pub lined : ℕ → Fault FileKind → Fault FileFault
lined line (faults.Named kind) = faults.Named (fault_at line kind)
lined line faults.OutOfMemory = faults.OutOfMemory
