-- Model files, each read in its format: the model that bytes are a text of, and the first fault that they have.
use Rattle.std.specs.Prelude.{ℕ, Bool, true, false, List, Result, Ok, Err}
use Rattle.pami_frac.specs.declared.fault.Fault.{Fault}
use Rattle.pami_frac.specs.declared.fault.Fault.TheVariants as faults
use Rattle.pami_model.specs.declared.fault.FileFault.{FileFault}
use Rattle.pami_model.specs.Contents.{Contents}
use Rattle.pami_mps.specs.Mps as mps
use Rattle.pami_lp.specs.Lp as lp

-- the formats of model files
pub data Format : Type 0 where
  AsMps : Format
  AsLp : Format

-- the format that a command names, LP or else MPS
abbrev pub format_by : Bool → Format
format_by false = AsMps
format_by true = AsLp

-- the bytes, read in this format, are a text of the model with these contents
abbrev pub IsTextOf : Format → List ℕ → Contents → Type 0
IsTextOf AsMps bytes c = mps.Mps bytes c
IsTextOf AsLp bytes c = lp.Lp bytes c

-- the first fault of the bytes, read in this format
abbrev pub IsFirstFaultOf : Format → List ℕ → FileFault → Type 0
IsFirstFaultOf AsMps bytes fault = mps.FirstFault bytes fault
IsFirstFaultOf AsLp bytes fault = lp.FirstFault bytes fault

-- a named fault is the first one; want of memory is free
abbrev pub IsRefusedIn : {A : Type 0} → Format → List ℕ → Result A (Fault FileFault) → Type 0
IsRefusedIn format bytes (Ok x) = Unit {0}
IsRefusedIn format bytes (Err (faults.Named fault)) = IsFirstFaultOf format bytes fault
IsRefusedIn format bytes (Err faults.OutOfMemory) = Unit {0}
