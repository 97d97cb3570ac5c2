-- How the answer of a step follows the script.
use Rattle.std.specs.Prelude.{◌≡◌, ℕ, suc, Result, Ok, Err}
use Rattle.pami_frac.specs.declared.fault.Fault.{Fault}
use Rattle.pami_frac.specs.declared.fault.Fault.TheVariants as faults
use Rattle.pami_factoring.specs.declared.kept.LuFault.{LuFault}
use Rattle.pami_factoring.specs.Factor.{then_more}
use Rattle.pami_dense.specs.declared.rest.Rest.{Rest}
use Rattle.pami_dense.specs.declared.elimination.Taken.{Taken}
use Rattle.pami_dense.specs.Rest.{left_script}

-- the script goes on with this step, and then with what the step leaves, or it ends with this fault; want of memory is free
abbrev pub FollowsStep : Rest → Result Taken (Fault LuFault) → Type 0
FollowsStep r (Ok t) = (n : ℕ) → left_script (suc n) r ≡ then_more t.step (left_script n t.rest)
FollowsStep r (Err (faults.Named e)) = (n : ℕ) → left_script (suc n) r ≡ Err e
FollowsStep r (Err faults.OutOfMemory) = Unit {0}
