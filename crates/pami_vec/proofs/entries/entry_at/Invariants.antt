use Rattle.std.proofs.Common.{◌≡◌, drop}
use Rattle.pami_script.specs.Dense.{at}
use Rattle.pami_vec.proofs.entries.entry_at.Given as goal

abbrev pub invariant-loop-entry : goal.invariant-loop-entry
invariant-loop-entry l = at l.entries l.place ≡ at (drop l.entry-index l.entries) l.place
