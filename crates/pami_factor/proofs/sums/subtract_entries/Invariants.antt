use Rattle.std.proofs.Common.{◌≡◌, drop}
use Rattle.pami_linear.specs.Lists.{get}
use Rattle.pami_script.specs.Script.{sub_entries}
use Rattle.pami_factor.proofs.sums.subtract_entries.Given as goal

abbrev pub invariant-loop-entry : goal.invariant-loop-entry
invariant-loop-entry l = sub_entries l.entries (get l.xs) l.fn.t ≡ sub_entries (drop l.entry-index l.entries) (get l.xs) l.rest
