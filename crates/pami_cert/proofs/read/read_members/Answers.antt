use Rattle.std.proofs.Common.{◌≡◌, ◌<◌, length, arith}
use Rattle.std.proofs.lemmas.Result.{err_from_is_err_and}
use Rattle.pami_model.specs.Contents.{contents}
use Rattle.pami_cert.specs.Part.{names}
use Rattle.pami_cert.specs.Due.{part_due}
use Rattle.pami_cert.specs.Read.{IsWrongFrom}
use Rattle.pami_cert.proofs.Judged.{named_on}
use Rattle.pami_cert.proofs.Reading.{members_step, members_wrong, members_read}
use Rattle.pami_cert.proofs.read.read_members.Goals as goal

pub returns-in_err-member-clause-wrong : goal.returns-in_err-member-clause-wrong
returns-in_err-member-clause-wrong c =
    let m = contents c.args.model.now in
    let bytes = c.args.text.now.bytes.now in
    let within : c.loop-i.i < length (names m c.args.part) = rw c.count-i-end.ensures at c.loop-i-test.true in
    let p = err_from_is_err_and c.from_residual.result c.from_residual.ensures.1 in
    named_on c.from_residual.result p.0 c.in_err-member.field-0.0 (λ fault. IsWrongFrom (part_due m c.args.part 1) bytes c.args.at fault) p.1 p.2
    (members_wrong m c.args.part bytes c.args.at c.loop-i.i c.loop-i.values.items c.name.result.now c.in_err-member.field-0.0
    c.loop-i.invariant within c.name.ensures c.in_err-member.ensures.wrong)

pub loop-i-preserved : goal.loop-i-preserved
loop-i-preserved c =
    let m = contents c.args.model.now in
    let within : c.loop-i.i < length (names m c.args.part) = rw c.count-i-end.ensures at c.loop-i-test.true in
    let read = c.in_ok-member.ensures.due in
    members_step m c.args.part c.args.text.now.bytes.now c.args.at c.loop-i.i c.loop-i.values.items c.push.new.self.items
    c.name.result.now c.in_ok-member.field-0 c.loop-i.invariant within c.name.ensures read.0 read.1 c.in_ok-push.ensures.items

pub returns-clause-read : goal.returns-clause-read
returns-clause-read c =
    let m = contents c.args.model.now in
    let bytes = c.args.text.now.bytes.now in
    let count = c.count-i-end.ensures in
    let above = c.loop-i-test.false in
    let below = c.loop-i.auto.i-end in
    let all : c.loop-i.i ≡ length (names m c.args.part) = omega (arith, count, above, below) in
    rw c.from_vec.ensures (members_read m c.args.part bytes c.args.at c.loop-i.i c.loop-i.values.items c.loop-i.invariant all)
