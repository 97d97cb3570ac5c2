use Rattle.std.proofs.Common.{refl, ◌+◌, ◌≡◌, ◌≤◌, length, map, arith}
use Rattle.pami_edge.specs.Lines.{lines_of, piece}
use Rattle.pami_lp_text.specs.Told.{all_told}
use Rattle.pami_lp_text.proofs.Pieces.{lines_count, line_at, lines_same, lined_more}
use Rattle.pami_lp_text.proofs.token.tokens.Goals as goal

pub overflow_cast-i : goal.overflow_cast-i
overflow_cast-i c =
    let e : map (piece c.args.bytes.now) c.as_slice-line-items.result.now ≡ lines_of c.args.bytes.now = rw c.as_slice-line-items.ensures.value c.in_ok-found.ensures.pieces in
    let n : length c.as_slice-line-items.result.now ≤ length c.args.bytes.now = lines_count _ _ c.args.bytes.now e in
    omega (arith, c.loop-i-test.true, c.requires)

pub overflow_add-i : goal.overflow_add-i
overflow_add-i c =
    let e : map (piece c.args.bytes.now) c.as_slice-line-items.result.now ≡ lines_of c.args.bytes.now = rw c.as_slice-line-items.ensures.value c.in_ok-found.ensures.pieces in
    let n : length c.as_slice-line-items.result.now ≤ length c.args.bytes.now = lines_count _ _ c.args.bytes.now e in
    omega (arith, c.loop-i-test.true, c.requires)

pub loop-i-preserved : goal.loop-i-preserved
loop-i-preserved c =
    let e : map (piece c.args.bytes.now) c.as_slice-line-items.result.now ≡ lines_of c.args.bytes.now = rw c.as_slice-line-items.ensures.value c.in_ok-found.ensures.pieces in
    let n : length (lines_of c.args.bytes.now) ≡ length c.as_slice-line-items.result.now = lines_same _ _ c.args.bytes.now e in
    lined_more (all_told c.loop-i.out.items) (all_told c.take_line.new.out.items) c.loop-i.i (c.loop-i.i + 1) (lines_of c.args.bytes.now) c.of.result.now c.loop-i.invariant (omega (arith, c.loop-i-test.true))
    (line_at c.as_slice-line-items.result.now (piece c.args.bytes.now) c.args.bytes.now c.loop-i.i (record { start = 0; end = 0 }) c.of.result.now e c.loop-i-test.true c.of.ensures) refl c.in_ok-take_line.ensures

pub overflow_cast-count : goal.overflow_cast-count
overflow_cast-count c =
    let n : length c.as_slice.result.now ≤ length c.args.bytes.now = rw c.as_slice.ensures.value (lines_count c.in_ok-found.found.items _ c.args.bytes.now c.in_ok-found.ensures.pieces) in
    omega (arith, c.requires)

pub returns-clause-few : goal.returns-clause-few
returns-clause-few c =
    let n : length c.as_slice.result.now ≤ length c.args.bytes.now = rw c.as_slice.ensures.value (lines_count c.in_ok-found.found.items _ c.args.bytes.now c.in_ok-found.ensures.pieces) in
    omega (arith, c.requires)
