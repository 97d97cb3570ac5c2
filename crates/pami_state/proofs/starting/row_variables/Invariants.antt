use Rattle.std.proofs.Common.{◌≡◌, ◌+◌, map}
use Rattle.std.specs.List.{range_with_len}
use Rattle.pami_state.proofs.starting.row_variables.Given as goal

abbrev pub invariant-loop-row : goal.invariant-loop-row
invariant-loop-row l = l.head.items ≡ map (λ i. l.columns + i) (range_with_len 0 l.row)
