-- How the answer of a call that puts entries behind old ones follows its script.
use Rattle.std.specs.Prelude.{◌≡◌, ℕ, List, ◌++◌, Result, Ok, Err}
use Rattle.pami_frac.specs.declared.arithmetic.Refused.{Refused}
use Rattle.pami_frac.specs.declared.fault.Fault.{Fault}
use Rattle.pami_frac.specs.declared.fault.Fault.TheVariants as faults
use Rattle.pami_frac.specs.declared.list.Entry.{Entry}
use Rattle.pami_price.specs.declared.price.SliceRefused.{SliceRefused}

-- these entries, and behind them those of a script
abbrev pub onto : {E : Type 0} → List Entry → Result (List Entry) E → Result (List Entry) E
onto out (Ok es) = Ok (out ++ es)
onto out (Err e) = Err e

-- the entries have become the old ones with the script's behind; want of memory is free
abbrev pub FollowsOnto : {E A : Type 0} → Result (List Entry) E → List Entry → List Entry → Result A (Fault E) → Type 0
FollowsOnto script old new (Ok x) = onto old script ≡ Ok new
FollowsOnto script old new (Err (faults.Named e)) = script ≡ Err e
FollowsOnto script old new (Err faults.OutOfMemory) = Unit {0}

-- the fault of a row for the fault of one of its slices
abbrev pub in_slice : ℕ → Fault Refused → Fault SliceRefused
in_slice slice (faults.Named r) = faults.Named (record { slice = slice; refused = r })
in_slice slice faults.OutOfMemory = faults.OutOfMemory
