use Rattle.std.proofs.Common.{◌≡◌, ◌++◌, drop}
use Rattle.pami_factoring.specs.Factor.{columns_at, row_of}
use Rattle.pami_dense.proofs.matrix.basis_row.Given as goal

abbrev pub invariant-loop-j : goal.invariant-loop-j
invariant-loop-j l = row_of (columns_at l.columns l.head) l.row ≡ l.out.items ++ row_of (columns_at l.columns (drop l.j-index l.head)) l.row
