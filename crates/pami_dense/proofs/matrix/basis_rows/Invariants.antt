use Rattle.std.proofs.Common.{◌≡◌, ◌++◌, ◌-◌, length}
use Rattle.pami_factoring.specs.Factor.{columns_at, rows_from}
use Rattle.pami_dense.proofs.matrix.basis_rows.Given as goal

abbrev pub invariant-loop-row : goal.invariant-loop-row
invariant-loop-row l =
    rows_from (length l.head) 0 (columns_at l.columns l.head)
    ≡ l.out.items ++ rows_from (length l.head - l.row) l.row (columns_at l.columns l.head)
