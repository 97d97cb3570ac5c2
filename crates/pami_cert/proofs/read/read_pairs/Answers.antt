use Rattle.std.proofs.Common.{◌≡◌, ◌<◌, length, arith}
use Rattle.std.proofs.lemmas.Result.{err_from_is_err_and}
use Rattle.pami_model.specs.Contents.{contents}
use Rattle.pami_cert.specs.Part.{names}
use Rattle.pami_cert.specs.Due.{part_due}
use Rattle.pami_cert.specs.Read.{IsWrongFrom}
use Rattle.pami_cert.proofs.Judged.{named_on}
use Rattle.pami_cert.proofs.Reading.{pairs_step, pairs_wrong, pairs_read}
use Rattle.pami_cert.proofs.read.read_pairs.Goals as goal

pub returns-in_err-value-clause-wrong : goal.returns-in_err-value-clause-wrong
returns-in_err-value-clause-wrong c =
    let m = contents c.args.model.now in
    let bytes = c.args.text.now.bytes.now in
    let within : c.loop-i.i < length (names m c.args.part) = rw c.count-i-end.ensures at c.loop-i-test.true in
    let p = err_from_is_err_and c.from_residual.result c.from_residual.ensures.1 in
    named_on c.from_residual.result p.0 c.in_err-value.field-0.0 (λ fault. IsWrongFrom (part_due m c.args.part 2) bytes c.args.at fault) p.1 p.2
    (pairs_wrong m c.args.part bytes c.args.at c.loop-i.i c.loop-i.values.items c.loop-i.others.items c.name.result.now c.in_err-value.field-0.0
    c.loop-i.invariant within c.name.ensures c.in_err-value.ensures.wrong)

pub loop-i-preserved : goal.loop-i-preserved
loop-i-preserved c =
    let m = contents c.args.model.now in
    let within : c.loop-i.i < length (names m c.args.part) = rw c.count-i-end.ensures at c.loop-i-test.true in
    let read = c.in_ok-value.ensures.due in
    pairs_step m c.args.part c.args.text.now.bytes.now c.args.at c.loop-i.i c.loop-i.values.items c.loop-i.others.items c.push.new.self.items
    c.push-in-loop-i.new.self.items
    c.name.result.now c.in_ok-value.value c.in_ok-value.other c.loop-i.invariant within c.name.ensures read.0 read.1
    c.in_ok-push.ensures.items c.in_ok-push-2.ensures.items

pub returns-clause-read : goal.returns-clause-read
returns-clause-read c =
    let m = contents c.args.model.now in
    let bytes = c.args.text.now.bytes.now in
    let count = c.count-i-end.ensures in
    let above = c.loop-i-test.false in
    let below = c.loop-i.auto.i-end in
    let all : c.loop-i.i ≡ length (names m c.args.part) = omega (arith, count, above, below) in
    rw (c.from_vec.ensures, c.from_vec-2.ensures)
    (pairs_read m c.args.part bytes c.args.at c.loop-i.i c.loop-i.values.items c.loop-i.others.items c.loop-i.invariant all)
