use Rattle.std.proofs.Common.{◌≡◌, List, length}
use Rattle.std.specs.List.{All}
use Rattle.pami_algebra.specs.Fraction.{Fraction}
use Rattle.pami_range.proofs.tests.one_row.Given as goal

abbrev pub invariant-loop-value : goal.invariant-loop-value
invariant-loop-value l = All (λ (column : List Fraction). length column ≡ 1) l.columns.items × (length l.columns.items ≡ l.value-index)
