-- Model files in each format: bytes have one model, or one first fault, and not both.
use Rattle.std.proofs.lemmas.List.{length-replicate}
use Rattle.std.proofs.Common.{suc, ◌≡◌, ◌⊎◌, ℕ, ◌<◌, List, length, Option, None, Some, refl, arith, replicate}
use Rattle.pami_edge.specs.Outside.{Files, HasFile, HasLongFile}
use Rattle.pami_model.specs.declared.fault.FileFault.{FileFault}
use Rattle.pami_model.specs.declared.fault.FileKind.TheVariants as kinds
use Rattle.pami_model.specs.Contents.{Contents}
use Rattle.pami_model.specs.Rules.{byte_limit}
use Rattle.pami_mps.proofs.Whole as mps
use Rattle.pami_lp.proofs.Joins as lp
use Rattle.pami_lp.specs.Lp.{TooLong}
use Rattle.pami_cli.specs.Reading.{Format, AsMps, AsLp, IsTextOf, IsFirstFaultOf}

pub one_text : (format : Format) (bytes : List ℕ) (c d : Contents) → IsTextOf format bytes c → IsTextOf format bytes d → c ≡ d
one_text AsMps bytes c d a b = mps.one_model bytes c d a b
one_text AsLp bytes c d a b = lp.one_model bytes c d a b

pub one_refusal : (format : Format) (bytes : List ℕ) (f g : FileFault) → IsFirstFaultOf format bytes f → IsFirstFaultOf format bytes g → f ≡ g
one_refusal AsMps bytes f g a b = mps.one_fault bytes f g a b
one_refusal AsLp bytes f g a b = lp.one_fault bytes f g a b

pub text_or_fault : (format : Format) (bytes : List ℕ) (c : Contents) (f : FileFault) → IsTextOf format bytes c → IsFirstFaultOf format bytes f → ⊥
text_or_fault AsMps bytes c f is first = mps.not_both bytes c f is first
text_or_fault AsLp bytes c f is first = lp.not_both bytes c f is first

pub has_text_or_fault : (format : Format) (bytes : List ℕ) → ((c : Contents) × IsTextOf format bytes c) ⊎ ((f : FileFault) × IsFirstFaultOf format bytes f)
has_text_or_fault AsMps bytes = mps.model_or_fault bytes
has_text_or_fault AsLp bytes = lp.model_or_fault bytes

-- a file that is too long has that fault, in no line
abbrev pub long_fault : FileFault
long_fault = record { line = 0; kind = kinds.TooLong }

pub long_first : (format : Format) (bytes : List ℕ) → byte_limit < length bytes → IsFirstFaultOf format bytes long_fault
long_first AsMps bytes l = mps.too_long bytes l
long_first AsLp bytes l = TooLong l refl

-- some list is longer than any number
long_list : (n : ℕ) → (bytes : List ℕ) × (n < length bytes)
long_list n = (replicate (suc n) 0, rw length-replicate (omega arith))

-- a file that is too long has bytes, which are too many
pub long_bytes : (files : Option Files) (name : List ℕ) (most : ℕ) → HasLongFile files name most → (bytes : List ℕ) × (HasFile files name bytes × (most < length bytes))
long_bytes None name most h = let long = long_list most in (long.0, (tt, long.1))
long_bytes (Some files) name most h = (h.0, (h.1, h.2))

pub long_file : (format : Format) (files : Option Files) (name : List ℕ) → HasLongFile files name byte_limit
    → (bytes : List ℕ) × (HasFile files name bytes × IsFirstFaultOf format bytes long_fault)
long_file format files name h = let long = long_bytes files name byte_limit h in (long.0, (long.1.0, long_first format long.0 long.1.1))
