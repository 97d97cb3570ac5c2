use Rattle.std.proofs.Common.{sym, ap, ◌∙◌, ◌+◌, subst, length, List, Result, arith}
use Rattle.pami_algebra.specs.Fraction.{Fraction}
use Rattle.pami_frac.specs.declared.arithmetic.Refused.{Refused}
use Rattle.pami_theory.specs.declared.words.Stand.TheVariants as stands
use Rattle.pami_state.specs.Sums.{AreSums, AddsColumn, standing_at}
use Rattle.pami_state.proofs.Listed.{standing_read}
use Rattle.pami_state.proofs.Summed.{sums_more, sums_skip, column_read, written}
use Rattle.pami_state.proofs.starting.row_sums.Goals as goal

pub loop-j-preserved-then-is_zero : goal.loop-j-preserved-then-is_zero
loop-j-preserved-then-is_zero c =
    let l = c.loop-j-test.true in
    let x = standing_at c.args.bounds.now c.args.stands.now in
    sums_skip c.args.columns.now c.args.rows c.loop-j.j x c.loop-j.sums.items c.loop-j.invariant
    (sym (c.is_zero.ensures.value.0 c.if-is_zero.true)
    ∙ standing_read c.args.bounds.now c.args.stands.now c.loop-j.j c.index-bounds-j.result stands.Basic c.value_at-x.result
    (let n = c.requires.bounds in omega arith) (let n = c.requires.stands in omega arith) c.index-bounds-j.is c.value_at-x.ensures)

pub add_column-requires : goal.add_column-requires
add_column-requires c =
    let l = c.loop-j-test.true in
    ap length c.as_mut_slice.ensures.value ∙ c.loop-j.invariant.by_row
    ∙ sym (ap length (column_read c.args.columns.now c.loop-j.j c.index-columns-j.result l c.index-columns-j.is) ∙ c.requires.tall c.loop-j.j l)

pub loop-j-preserved : goal.loop-j-preserved
loop-j-preserved c =
    let l = c.loop-j-test.true in
    let x = standing_at c.args.bounds.now c.args.stands.now in
    let columns = c.args.columns.now in
    let j = c.loop-j.j in
    let added : AddsColumn c.loop-j.sums.items c.index-columns-j.result c.value_at-x.result c.add_column.new.sums =
    subst (λ (old : List (Result Fraction Refused)). AddsColumn old c.index-columns-j.result c.value_at-x.result c.add_column.new.sums)
    c.as_mut_slice.ensures.value c.add_column.ensures in
    subst (AreSums columns c.args.rows (j + 1) x) (sym (written c.loop-j.sums.len c.loop-j.sums.items c.add_column.new.sums c.loop-j.sums.ok.0 added.as_many))
    (sums_more columns c.args.rows j x c.index-columns-j.result c.value_at-x.result c.loop-j.sums.items c.add_column.new.sums c.loop-j.invariant
    (column_read columns j c.index-columns-j.result l c.index-columns-j.is)
    (standing_read c.args.bounds.now c.args.stands.now j c.index-bounds-j.result stands.Basic c.value_at-x.result
    (let n = c.requires.bounds in omega arith) (let n = c.requires.stands in omega arith) c.index-bounds-j.is c.value_at-x.ensures)
    added)
