use Rattle.std.proofs.Common.{◌≡◌, ◌++◌, ◌∷◌, [], ◌-◌, ◌+◌, suc, List, length, sym, ap, ◌∙◌, append_assoc, arith}
use Rattle.pami_algebra.specs.Fraction.{Fraction}
use Rattle.pami_factoring.specs.Factor.{columns_at, rows_from, row_of}
use Rattle.pami_dense.proofs.matrix.basis_rows.Goals as goal

pub loop-row-preserved : goal.loop-row-preserved
loop-row-preserved c =
    let n = length c.args.head.now in
    let columns = columns_at c.args.columns.now c.args.head.now in
    let e : n - c.loop-row.row ≡ suc (n - (c.loop-row.row + 1)) = omega arith in
    let f : suc c.loop-row.row ≡ c.loop-row.row + 1 = omega arith in
    c.loop-row.invariant
    ∙ ap (λ k. c.loop-row.out.items ++ rows_from k c.loop-row.row columns) e
    ∙ ap (λ k. c.loop-row.out.items ++ (row_of columns c.loop-row.row ∷ rows_from (n - (c.loop-row.row + 1)) k columns)) f
    ∙ ap (λ r. c.loop-row.out.items ++ (r ∷ rows_from (n - (c.loop-row.row + 1)) (c.loop-row.row + 1) columns)) (sym {A = List Fraction} c.in_ok-basis_row.ensures)
    ∙ sym (append_assoc c.loop-row.out.items (c.in_ok-basis_row.field-0 ∷ []) (rows_from (n - (c.loop-row.row + 1)) (c.loop-row.row + 1) columns))
    ∙ ap (λ z. z ++ rows_from (n - (c.loop-row.row + 1)) (c.loop-row.row + 1) columns) (sym c.in_ok-push.ensures.items)
