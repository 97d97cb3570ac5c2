use Rattle.std.proofs.Common.{◌≡◌, drop}
use Rattle.pami_factoring.specs.Factor.{reduce_rows}
use Rattle.pami_dense.proofs.Rows.{rows_left}
use Rattle.pami_dense.proofs.reduce.reduce_rows.Given as goal

abbrev pub invariant-loop-h : goal.invariant-loop-h
invariant-loop-h l =
    reduce_rows l.active l.places l.place l.rows l.kept
    ≡ rows_left (drop l.h l.active) l.places l.place (drop l.h l.rows) l.kept l.out.items l.multipliers.items
