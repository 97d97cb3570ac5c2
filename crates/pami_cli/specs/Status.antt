-- The exit status of each way to end, and the ways that are ends of `check` alone.
use Rattle.std.specs.Prelude.{ℕ, Bool, true, false}
use Rattle.pami_cli.specs.declared.status.Status.{Status}
use Rattle.pami_cli.specs.declared.status.Status.TheVariants.{Good, Words, File, ReadFault, WriteFault, OutOfMemory, Infeasible, DualInfeasible, Limit, Overflow, Invalid, Unchecked, Malformed}

abbrev pub code_of : Status → ℕ
code_of Good = 0
code_of Words = 2
code_of File = 3
code_of ReadFault = 4
code_of WriteFault = 5
code_of OutOfMemory = 6
code_of Infeasible = 10
code_of DualInfeasible = 11
code_of Limit = 12
code_of Overflow = 13
code_of Invalid = 20
code_of Unchecked = 21
code_of Malformed = 22

abbrev pub is_judgement : Status → Bool
is_judgement Invalid = true
is_judgement Unchecked = true
is_judgement Malformed = true
is_judgement status = false
