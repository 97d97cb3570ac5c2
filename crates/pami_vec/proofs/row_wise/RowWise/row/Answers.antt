use Rattle.std.proofs.Common.{[], List, subst, arith, sym}
use Rattle.pami_algebra.specs.Fraction.{Fraction}
use Rattle.pami_vec.specs.Turned.{AreRowOf}
use Rattle.pami_vec.proofs.Turned.{row_of_turned, no_row}
use Rattle.pami_vec.proofs.row_wise.RowWise.row.Goals as goal

pub returns-then-row-len : goal.returns-then-row-len
returns-then-row-len c =
    let few = c.len.ensures in
    let ok = c.self.inside.rows.ok in
    let low = c.if-row-len.true in
    subst (λ (cs : List (List Fraction)). AreRowOf cs c.args.row c.entries.result.now) c.self.view_is
    (row_of_turned c.self.inside.count c.self.inside.rows.items c.args.row c.index.result.now c.entries.result.now c.self.invariant (omega arith) c.index.ensures c.entries.ensures)

pub returns-else-row-len : goal.returns-else-row-len
returns-else-row-len c =
    let few = c.len.ensures in
    let ok = c.self.inside.rows.ok in
    let past = c.if-row-len.false in
    subst (λ (cs : List (List Fraction)). AreRowOf cs c.args.row []) c.self.view_is (no_row c.self.inside.count c.self.inside.rows.items c.args.row (omega arith))
