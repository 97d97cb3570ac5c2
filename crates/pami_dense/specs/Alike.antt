-- Two answers to the same question.
use Rattle.std.specs.Prelude.{◌≡◌, List, Result, Err}
use Rattle.pami_frac.specs.declared.fault.Fault.{Fault}
use Rattle.pami_frac.specs.declared.fault.Fault.TheVariants as faults
use Rattle.pami_factoring.specs.declared.kept.Kept.{Kept}
use Rattle.pami_factoring.specs.declared.kept.LuFault.{LuFault}

-- the same steps or the same fault, unless one of both wanted memory
abbrev pub AreAlike : Result (List Kept) (Fault LuFault) → Result (List Kept) (Fault LuFault) → Type 0
AreAlike (Err faults.OutOfMemory) s = Unit {0}
AreAlike r (Err faults.OutOfMemory) = Unit {0}
AreAlike r s = r ≡ s
