use Rattle.std.proofs.Common.{◌+◌, ◌-◌, ◌/◌, length, ap, sym, arith}
use Rattle.pami_price.proofs.Summed.{halves_start, halves_right, halves_left, halves_end, read_place}
use Rattle.pami_price.proofs.sums.first_index.Goals as goal

pub loop-low-init : goal.loop-low-init
loop-low-init c = (omega arith, omega arith, halves_start c.args.first c.args.entries.now (length c.args.entries.now) (omega arith))

pub loop-low-preserved-then-entries-middle : goal.loop-low-preserved-then-entries-middle
loop-low-preserved-then-entries-middle c =
    let i = c.loop-low.invariant in
    let t = c.loop-low-test.true in
    let a = i.0 in
    let b = i.1 in
    let middle = c.loop-low.low + (c.loop-low.high - c.loop-low.low) / 2 in
    let p = read_place c.args.entries.now middle c.index-entries-middle.result c.index-entries-middle.result (omega arith) c.index-entries-middle.is in
    let h = c.if-entries-middle.true in
    (omega arith, b, halves_right c.args.first c.args.entries.now c.loop-low.low c.loop-low.high middle c.index-entries-middle.result i.2 (omega arith) c.index-entries-middle.is (omega arith))

pub loop-low-preserved : goal.loop-low-preserved
loop-low-preserved c =
    let i = c.loop-low.invariant in
    let t = c.loop-low-test.true in
    let a = i.0 in
    let b = i.1 in
    let middle = c.loop-low.low + (c.loop-low.high - c.loop-low.low) / 2 in
    let p = read_place c.args.entries.now middle c.index-entries-middle.result c.index-entries-middle.result (omega arith) c.index-entries-middle.is in
    let h = c.if-entries-middle.false in
    (omega arith, omega arith, halves_left c.args.first c.args.entries.now c.loop-low.low c.loop-low.high middle c.index-entries-middle.result i.2 (omega arith) c.index-entries-middle.is (omega arith))

pub returns : goal.returns
returns c = λ high l r.
    let i = c.loop-low.invariant in
    let t = c.loop-low-test.false in
    let a = i.0 in
    halves_end c.args.first c.args.entries.now c.loop-low.low c.loop-low.high high (omega arith) l r i.2
