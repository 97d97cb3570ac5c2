use Rattle.std.proofs.Common.{◌≡◌, ◌≤◌, ◌+◌, ℕ, Err, length, map, refl, sym, ap, subst, ◌∙◌, arith}
use Rattle.pami_frac.specs.declared.fault.Fault.{Fault}
use Rattle.pami_model.specs.declared.fault.FileFault.{FileFault}
use Rattle.pami_edge.specs.Lines.{lines_of, piece}
use Rattle.pami_mps.specs.declared.read.Ending.{Ending}
use Rattle.pami_mps.specs.Line.{text_lines, line_of}
use Rattle.pami_mps.specs.Seen.{Seen}
use Rattle.pami_mps.specs.Mps.{IsRefused}
use Rattle.pami_mps.specs.Reader.{seen_by_reader}
use Rattle.pami_mps.proofs.Whole.{starts, goes_on}
use Rattle.pami_mps.proofs.Lines.{Open, taken_at, pieces_count, within, few_lines, ended, still_open, refused, read_to, unended_at}
use Rattle.pami_mps.proofs.read.read_lines.Goals as goal

pub loop-line-init : goal.loop-line-init
loop-line-init c = (
  subst (λ (x : Seen). Open (text_lines c.args.bytes.now) 0 x) (sym c.in_ok-reader.ensures)
      (record { so = starts (text_lines c.args.bytes.now); open_still = refl }),
  refl,
)

pub overflow_add-number : goal.overflow_add-number
overflow_add-number c =
    let e : map (piece c.args.bytes.now) c.as_slice-line-items.result.now ≡ lines_of c.args.bytes.now =
    rw c.as_slice-line-items.ensures.value c.in_ok-found.ensures.pieces in
    let few : length c.as_slice-line-items.result.now ≤ 16777216 =
    few_lines c.as_slice-line-items.result.now c.args.bytes.now e c.if-bytes-gt-BYTE_LIMIT.false in
    let at : c.loop-line.number ≡ c.loop-line.line-index = c.loop-line.invariant.1 in
    omega arith

pub returns-in-Err-clause-refused : goal.returns-in-Err-clause-refused
returns-in-Err-clause-refused c =
    let e : map (piece c.args.bytes.now) c.as_slice-line-items.result.now ≡ lines_of c.args.bytes.now =
    rw c.as_slice-line-items.ensures.value c.in_ok-found.ensures.pieces in
    let i = c.loop-line.line-index in
    let pieces = c.as_slice-line-items.result.now in
    let lt = within pieces c.args.bytes.now i e c.loop-line-test.true in
    let at = taken_at pieces c.args.bytes.now i (record { start = 0; end = 0 }) c.of.result.now e c.loop-line-test.true c.of.ensures in
    subst (λ (f : Fault FileFault). IsRefused {A = Ending} c.args.bytes.now (Err f)) (sym c.at_line.ensures)
    (refused c.args.bytes.now i (seen_by_reader c.loop-line.reader) c.loop-line.invariant.0
    (line_of c.of.result.now) lt at c.if-bytes-gt-BYTE_LIMIT.false Ending c.in-Err.fault (c.loop-line.number + 1)
    (ap (λ (k : ℕ). k + 1) c.loop-line.invariant.1) c.in-Err.ensures.judged)

pub returns-then-eq-clause-read : goal.returns-then-eq-clause-read
returns-then-eq-clause-read c =
    let e : map (piece c.args.bytes.now) c.as_slice-line-items.result.now ≡ lines_of c.args.bytes.now =
    rw c.as_slice-line-items.ensures.value c.in_ok-found.ensures.pieces in
    let i = c.loop-line.line-index in
    let pieces = c.as_slice-line-items.result.now in
    let lt = within pieces c.args.bytes.now i e c.loop-line-test.true in
    let at = taken_at pieces c.args.bytes.now i (record { start = 0; end = 0 }) c.of.result.now e c.loop-line-test.true c.of.ensures in
    read_to c.args.bytes.now i (seen_by_reader c.loop-line.reader) c.loop-line.invariant.0 (line_of c.of.result.now) lt at c.if-bytes-gt-BYTE_LIMIT.false
    c.in_default.ensures.judged (seen_by_reader c.take_line.new.self) c.in_default.ensures.grown
    (ended c.take_line.new.self.section (sym c.eq.ensures ∙ c.if-eq.true)) (c.loop-line.number + 1) (ap (λ (k : ℕ). k + 1) c.loop-line.invariant.1)

pub loop-line-preserved : goal.loop-line-preserved
loop-line-preserved c =
    let e : map (piece c.args.bytes.now) c.as_slice-line-items.result.now ≡ lines_of c.args.bytes.now =
    rw c.as_slice-line-items.ensures.value c.in_ok-found.ensures.pieces in
    let i = c.loop-line.line-index in
    let pieces = c.as_slice-line-items.result.now in
    let lt = within pieces c.args.bytes.now i e c.loop-line-test.true in
    let at = taken_at pieces c.args.bytes.now i (record { start = 0; end = 0 }) c.of.result.now e c.loop-line-test.true c.of.ensures in
    let open_still = still_open c.take_line.new.self.section (sym c.eq.ensures ∙ c.if-eq.false) in (
      record {
        so = goes_on (text_lines c.args.bytes.now) i (seen_by_reader c.loop-line.reader) (seen_by_reader c.take_line.new.self)
            (line_of c.of.result.now) c.loop-line.invariant.0.so lt at
            c.in_default.ensures.judged c.in_default.ensures.grown open_still;
        open_still = open_still;
      },
      ap (λ (k : ℕ). k + 1) c.loop-line.invariant.1,
    )

pub overflow_add-result : goal.overflow_add-result
overflow_add-result c =
    let e : map (piece c.args.bytes.now) c.as_slice-line-items.result.now ≡ lines_of c.args.bytes.now =
    rw c.as_slice-line-items.ensures.value c.in_ok-found.ensures.pieces in
    let few : length c.as_slice-line-items.result.now ≤ 16777216 =
    few_lines c.as_slice-line-items.result.now c.args.bytes.now e c.if-bytes-gt-BYTE_LIMIT.false in
    let at : c.loop-line.number ≡ c.loop-line.line-index = c.loop-line.invariant.1 in
    let le : c.loop-line.line-index ≤ length c.as_slice-line-items.result.now = c.loop-line.auto.line-index-end in
    omega arith

pub returns-clause-refused : goal.returns-clause-refused
returns-clause-refused c =
    let e : map (piece c.args.bytes.now) c.as_slice-line-items.result.now ≡ lines_of c.args.bytes.now =
    rw c.as_slice-line-items.ensures.value c.in_ok-found.ensures.pieces in
    let n : length (text_lines c.args.bytes.now) ≡ length c.as_slice-line-items.result.now = pieces_count c.as_slice-line-items.result.now c.args.bytes.now e in
    let le : c.loop-line.line-index ≤ length c.as_slice-line-items.result.now = c.loop-line.auto.line-index-end in
    let all : c.loop-line.line-index ≡ length (text_lines c.args.bytes.now) = omega (arith, c.loop-line-test.false) in
    unended_at c.args.bytes.now c.loop-line.line-index (seen_by_reader c.loop-line.reader) c.loop-line.invariant.0 c.if-bytes-gt-BYTE_LIMIT.false all
    (c.loop-line.number + 1) (ap (λ (k : ℕ). k + 1) c.loop-line.invariant.1)
