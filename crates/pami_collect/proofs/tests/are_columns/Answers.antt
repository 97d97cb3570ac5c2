use Rattle.std.proofs.Common.{◌≡◌, List, subst, arith, length}
use Rattle.std.specs.List.{All}
use Rattle.std.proofs.lemmas.List.{take_all}
use Rattle.std.proofs.lemmas.List.Elements.{All-more}
use Rattle.pami_algebra.specs.Fraction.{Fraction}
use Rattle.pami_collect.proofs.tests.are_columns.Goals as goal

pub loop-column-preserved : goal.loop-column-preserved
loop-column-preserved c =
    let long = c.len.ensures in
    let same = c.if-len-rows.false in
    All-more (λ (x : List Fraction). length x ≡ c.args.rows) c.args.columns.now c.loop-column.column-index c.column-item.result
    c.loop-column-test.true c.loop-column.invariant
    (subst (λ (x : List Fraction). length x ≡ c.args.rows) c.column-item.is (omega (arith, long, same)))

pub returns : goal.returns
returns c = λ e.
    subst (All (λ (x : List Fraction). length x ≡ c.args.rows)) (take_all c.loop-column.column-index c.args.columns.now c.loop-column-test.false)
    c.loop-column.invariant
