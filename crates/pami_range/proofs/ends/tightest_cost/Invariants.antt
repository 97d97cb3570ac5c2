use Rattle.std.proofs.Common.{◌≡◌, drop}
use Rattle.pami_script.specs.Script.{each_entry}
use Rattle.pami_range.specs.Lists.{cost_step_at, tightest_cost}
use Rattle.pami_range.proofs.ends.tightest_cost.Given as goal

abbrev pub invariant-loop-entry : goal.invariant-loop-entry
invariant-loop-entry l = tightest_cost l.side l.bounds l.stands l.reduced l.entries ≡ each_entry (drop l.entry-index l.entries) (cost_step_at l.side l.bounds l.stands l.reduced) l.so_far
