-- The bytes are an LP text of a model, or this is the first thing that is wrong with them.
use Rattle.std.specs.Prelude.{◌≡◌, ℕ, ◌+◌, ◌<◌, ◌≤◌, ◌⊎◌, List, [], ◌∷◌, ◌++◌, length, None, Some, Result, Ok, Err}
use Rattle.pami_frac.specs.declared.fault.Fault.{Fault}
use Rattle.pami_frac.specs.declared.fault.Fault.TheVariants as faults
use Rattle.pami_frac.specs.Answers.{then as chain}
use Rattle.pami_edge.specs.Lines.{lines_of}
use Rattle.pami_model.specs.declared.fault.Crossed.{Crossed}
use Rattle.pami_model.specs.declared.fault.FileFault.{FileFault}
use Rattle.pami_model.specs.declared.fault.FileKind.{FileKind}
use Rattle.pami_model.specs.declared.fault.FileKind.TheVariants as kinds
use Rattle.pami_model.specs.declared.model.Model.{Model}
use Rattle.pami_model.specs.Contents.{Contents, contents, contents_of}
use Rattle.pami_model.specs.Draft.{Draft, first_crossed}
use Rattle.pami_model.specs.Rules.{byte_limit}
use Rattle.pami_lp_text.specs.Classes.{Symbol, symbols}
use Rattle.pami_lp_text.specs.Lexeme.{text_words}
use Rattle.pami_lp_text.specs.declared.kind.Class.{Class}
use Rattle.pami_lp_text.specs.declared.kind.Class.TheVariants as classes
use Rattle.pami_lp.specs.Acts.{Seen}
use Rattle.pami_lp.specs.Grammar.{File, IsClosedFile, Item, file, items_of}
use Rattle.pami_lp.specs.Meaning.{draft_of}
use Rattle.pami_lp.specs.Outcome.{fault_at, first_class}
use Rattle.pami_lp.specs.Run.{start, step}
use Rattle.pami_lp.specs.Sections.{refusal, section_of}

-- the tokens of a text
abbrev pub tokens_of : List ℕ → List Symbol
tokens_of bytes = symbols (text_words bytes)

-- ---- models

-- the bytes are a text of the model with these contents: as far as `end`, the tokens are a file of the grammar in which
-- each row takes tokens as long as it can, nothing is wrong with its parts, no bounds are crossed, and the contents are
-- what the file gives
pub record Lp (bytes : List ℕ) (c : Contents) : Type 0 where
  pub fits : length bytes ≤ byte_limit
  pub tree : File
  pub rest : List Item
  pub is : items_of (tokens_of bytes) ≡ file tree rest
  pub closed : IsClosedFile tree rest
  pub draft : Draft
  pub gives : draft_of tree ≡ Ok draft
  pub uncrossed : first_crossed draft ≡ None
  pub contents : c ≡ contents_of draft

-- ---- first faults

-- some file of the grammar begins with these tokens
pub record Begins (front : List Item) : Type 0 where
  pub tree : File
  pub rest : List Item
  pub is : file tree [] ≡ front ++ rest
  pub closed : IsClosedFile tree []

-- these tokens are a whole file of the grammar
pub record IsWhole (front : List Item) : Type 0 where
  pub tree : File
  pub is : front ≡ file tree []
  pub closed : IsClosedFile tree []

-- the class of the first of these, and `next` behind the last
abbrev pub class_or : Class → List Symbol → Class
class_or next [] = next
class_or next (t ∷ ts) = t.class

-- what is known behind tokens that were taken one after another, in front of one of the class `next`; or what is wrong
-- with the first of them that is faulty
abbrev pub known : Seen → List Symbol → Class → Result Seen FileKind
known s [] next = Ok s
known s (t ∷ ts) next = chain (step s t.class (class_or next ts) t.text) (λ s. known s ts next)

-- the text isn't too long, and its tokens are these, a token, and what is behind it; nothing is wrong with these, and they
-- are no whole file
pub record Stands (bytes : List ℕ) (front : List Symbol) (token : Symbol) (back : List Symbol) (s : Seen) : Type 0 where
  pub fits : length bytes ≤ byte_limit
  pub is : tokens_of bytes ≡ front ++ token ∷ back
  pub good : known start front token.class ≡ Ok s
  pub unended : ¬ IsWhole (items_of front)

abbrev pub through : List Symbol → Symbol → List Item
through front token = items_of (front ++ token ∷ [])

-- the first thing that is wrong with the bytes, and its line
pub data FirstFault (bytes : List ℕ) (fault : FileFault) : Type 0 where
  -- there are too many of them, which has no line
  TooLong : byte_limit < length bytes → fault ≡ fault_at 0 kinds.TooLong → FirstFault bytes fault
  -- no file of the grammar goes on with a token
  Refused : (front : List Symbol) → (token : Symbol) → (back : List Symbol) → (s : Seen) → Stands bytes front token back s
      → ¬ Begins (through front token) → fault ≡ fault_at token.line (refusal (section_of front) token.class) → FirstFault bytes fault
  -- some file goes on with it, and its number, value, name or sum is faulty, or the row that it completes
  Faulty : (front : List Symbol) → (token : Symbol) → (back : List Symbol) → (s : Seen) → (kind : FileKind) → Stands bytes front token back s
      → Begins (through front token) → step s token.class (first_class back) token.text ≡ Err kind → fault ≡ fault_at token.line kind → FirstFault bytes fault
  -- it completes the file, whose columns have crossed bounds
  Crossing : (front : List Symbol) → (token : Symbol) → (back : List Symbol) → (s t : Seen) → (x : Crossed) → Stands bytes front token back s
      → IsWhole (through front token) → step s token.class (first_class back) token.text ≡ Ok t → first_crossed t.draft ≡ Some x
      → fault ≡ fault_at token.line kinds.Crossed → FirstFault bytes fault
  -- the tokens end before the file does
  Missing : (s : Seen) → length bytes ≤ byte_limit → known start (tokens_of bytes) classes.Bad ≡ Ok s → ¬ IsWhole (items_of (tokens_of bytes))
      → fault ≡ fault_at (length (lines_of bytes) + 1) kinds.EndMissing → FirstFault bytes fault

-- a text of a model, or one with a first fault
abbrev pub HasModelOrFault : List ℕ → Type 0
HasModelOrFault bytes = ((c : Contents) × Lp bytes c) ⊎ ((f : FileFault) × FirstFault bytes f)

-- ---- answers; want of memory is free

-- a named fault is the text's first
abbrev pub IsRefused : {A : Type 0} → List ℕ → Result A (Fault FileFault) → Type 0
IsRefused bytes (Ok x) = Unit {0}
IsRefused bytes (Err (faults.Named fault)) = FirstFault bytes fault
IsRefused bytes (Err faults.OutOfMemory) = Unit {0}

-- a model with these contents, and nothing else
abbrev pub IsReadAs : Contents → Result Model (Fault FileFault) → Type 0
IsReadAs c (Ok m) = contents m ≡ c
IsReadAs c (Err (faults.Named fault)) = ⊥
IsReadAs c (Err faults.OutOfMemory) = Unit {0}

-- this fault, and nothing else
abbrev pub IsRefusedAs : FileFault → Result Model (Fault FileFault) → Type 0
IsRefusedAs f (Ok m) = ⊥
IsRefusedAs f (Err (faults.Named fault)) = fault ≡ f
IsRefusedAs f (Err faults.OutOfMemory) = Unit {0}
