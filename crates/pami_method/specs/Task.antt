-- The scripts of a major in a list, each with its first operation that doesn't fit.
use Rattle.std.specs.Prelude.{Option, None, Some, Result, Ok, Err}
use Rattle.pami_frac.specs.declared.arithmetic.Refused.{Refused}
use Rattle.pami_method.specs.declared.words.Spot.{Spot}

-- a script in a list of scripts: its place, and its first operation that doesn't fit
pub record Task : Type 0 where
  pub spot : Spot
  pub refusal : Option Refused

-- the first operation of a script that doesn't fit
abbrev pub refusal : {A : Type 0} → Result A Refused → Option Refused
refusal (Ok value) = None
refusal (Err refused) = Some refused

abbrev pub task : {A : Type 0} → Spot → Result A Refused → Task
task spot script = record { spot = spot; refusal = refusal script }
