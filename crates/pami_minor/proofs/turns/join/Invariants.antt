use Rattle.std.proofs.Common.{◌≡◌, ◌++◌, drop}
use Rattle.pami_minor.specs.Joined.{joined}
use Rattle.pami_minor.proofs.turns.join.Given as goal

abbrev pub invariant-loop-slice : goal.invariant-loop-slice
invariant-loop-slice l = joined l.slices ≡ l.row.items ++ joined (drop l.slice-index l.slices)
