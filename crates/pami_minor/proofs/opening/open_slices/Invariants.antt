use Rattle.std.proofs.Common.{◌≡◌, length}
use Rattle.pami_minor.proofs.opening.open_slices.Given as goal

abbrev pub invariant-loop : goal.invariant-loop
invariant-loop l = length l.slices.items ≡ l.counter
