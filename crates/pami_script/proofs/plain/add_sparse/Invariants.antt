use Rattle.std.proofs.Common.{◌≡◌, drop}
use Rattle.pami_linear.specs.Lists.{get}
use Rattle.pami_script.specs.Script.{add_entries}
use Rattle.pami_script.proofs.plain.add_sparse.Given as goal

abbrev pub invariant-loop-entry : goal.invariant-loop-entry
invariant-loop-entry l = add_entries l.us (get l.vs) l.fn.t ≡ add_entries (drop l.entry-index l.us) (get l.vs) l.total
