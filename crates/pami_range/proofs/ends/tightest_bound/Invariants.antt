use Rattle.std.proofs.Common.{◌≡◌, drop}
use Rattle.pami_script.specs.Script.{each_entry}
use Rattle.pami_range.specs.Lists.{bound_step_at, tightest_bound}
use Rattle.pami_range.proofs.ends.tightest_bound.Given as goal

abbrev pub invariant-loop-entry : goal.invariant-loop-entry
invariant-loop-entry l = tightest_bound l.side l.bounds l.head l.values l.entries ≡ each_entry (drop l.entry-index l.entries) (bound_step_at l.side l.bounds l.head l.values) l.so_far
