use Rattle.std.proofs.Common.{◌≡◌, ◌∙◌, ◌≤◌, sym, true, arith, rules, length, map}
use Rattle.std.proofs.lemmas.Result.{err_from_is_err_and}
use Rattle.pami_edge.specs.Lines.{piece, lines_of}
use Rattle.pami_model.specs.Contents.{Contents}
use Rattle.pami_cert.specs.declared.cert.CertKind.TheVariants as kinds
use Rattle.pami_cert.specs.declared.cert.Claim.{Claim}
use Rattle.pami_cert.specs.CertLines.{head_line}
use Rattle.pami_cert.specs.CertText.{lines_in, words_of, is_head}
use Rattle.pami_cert.specs.FirstFault.{claim_word, FaultFrom}
use Rattle.pami_cert.specs.Read.{HasLine}
use Rattle.pami_cert.proofs.Judged.{handed_on}
use Rattle.pami_cert.proofs.Located.{fault_there}
use Rattle.pami_cert.proofs.Placed.{line_at, lines_count, plain_more, head_claims, claim_unknown, none_begins}
use Rattle.pami_cert.proofs.text.Text.head.Goals as goal

pub returns-in_err-located-clause-wrong : goal.returns-in_err-located-clause-wrong
returns-in_err-located-clause-wrong c =
    let bytes = c.args.self.now.bytes.now in
    let words = words_of c.of-line.result.now in
    let items = c.as_slice-place-items.result.now in
    let pieces : map (piece bytes) items ≡ lines_of bytes = rw c.as_slice-place-items.ensures.value c.args.self.now.pieces in
    let line : HasLine bytes c.loop-at.at words = line_at items bytes c.loop-at.at (record { start = 0; end = 0 }) c.of-line.result.now pieces
    c.loop-at-test.true c.of-line.ensures in
    let head : is_head words ≡ true = sym c.is_head.ensures ∙ c.if-is_head.true in
    let p = err_from_is_err_and c.from_residual.result c.from_residual.ensures.1 in
    let f = c.in_err-located.field-0.0 in
    let there = fault_there c.loop-at.at (λ kind. (kind ≡ kinds.Word) × ((claim : Claim) → ¬ (words ≡ head_line (claim_word claim)))) c.read_claim.result f
    c.in_err-located.ensures c.read_claim.ensures.wrong in
    handed_on c.from_residual.result p.0 f (λ fault. (m : Contents) → FaultFrom m 1 (lines_in bytes) fault) p.1 p.2
    (λ m. claim_unknown m bytes c.loop-at.at words there.0 f c.loop-at.invariant line head there.1.0 there.1.1)

pub returns-then-is_head-clause-found : goal.returns-then-is_head-clause-found
returns-then-is_head-clause-found c =
    let bytes = c.args.self.now.bytes.now in
    let words = words_of c.of-line.result.now in
    let items = c.as_slice-place-items.result.now in
    let pieces : map (piece bytes) items ≡ lines_of bytes = rw c.as_slice-place-items.ensures.value c.args.self.now.pieces in
    let line : HasLine bytes c.loop-at.at words = line_at items bytes c.loop-at.at (record { start = 0; end = 0 }) c.of-line.result.now pieces
    c.loop-at-test.true c.of-line.ensures in
    let head : is_head words ≡ true = sym c.is_head.ensures ∙ c.if-is_head.true in
    let claimed : words ≡ head_line (claim_word c.in_ok-located.field-0) = search rules in
    head_claims bytes c.loop-at.at words c.in_ok-located.field-0 c.loop-at.invariant line head claimed

pub loop-at-preserved : goal.loop-at-preserved
loop-at-preserved c =
    let bytes = c.args.self.now.bytes.now in
    let words = words_of c.of-line.result.now in
    let items = c.as_slice-place-items.result.now in
    let pieces : map (piece bytes) items ≡ lines_of bytes = rw c.as_slice-place-items.ensures.value c.args.self.now.pieces in
    let line : HasLine bytes c.loop-at.at words = line_at items bytes c.loop-at.at (record { start = 0; end = 0 }) c.of-line.result.now pieces
    c.loop-at-test.true c.of-line.ensures in
    plain_more bytes c.loop-at.at words c.loop-at.invariant line (sym c.is_head.ensures ∙ c.if-is_head.false)

pub returns-clause-wrong : goal.returns-clause-wrong
returns-clause-wrong c = λ m.
    let bytes = c.args.self.now.bytes.now in
    let items = c.as_slice-place-items.result.now in
    let pieces : map (piece bytes) items ≡ lines_of bytes = rw c.as_slice-place-items.ensures.value c.args.self.now.pieces in
    let count : c.len.result ≡ length items = search rules in
    let all : length items ≤ c.loop-at.at = search rules in
    rw c.fault_at.ensures (none_begins m bytes c.loop-at.at c.len.result c.loop-at.invariant (count ∙ sym (lines_count items bytes pieces))
    (omega (arith, count, all)))
