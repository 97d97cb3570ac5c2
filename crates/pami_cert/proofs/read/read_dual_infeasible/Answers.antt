use Rattle.std.proofs.Common.{◌+◌, subst}
use Rattle.std.proofs.lemmas.Result.{err_from_is_err_and}
use Rattle.pami_model.specs.Contents.{contents}
use Rattle.pami_cert.specs.declared.cert.Claim.TheVariants as claims
use Rattle.pami_cert.specs.declared.part.Part.TheVariants.{Columns, Rows}
use Rattle.pami_cert.specs.Due.{due, part_due}
use Rattle.pami_cert.specs.Read.{IsWrongFrom, HasMembers}
use Rattle.pami_cert.proofs.Judged.{named_on}
use Rattle.pami_cert.proofs.Answering.{faults_on, direction_columns_wrong, direction_rows_wrong, direction_end_wrong, direction_read}
use Rattle.pami_cert.proofs.read.read_dual_infeasible.Goals as goal

pub returns-in_err-x-clause-wrong : goal.returns-in_err-x-clause-wrong
returns-in_err-x-clause-wrong c =
    let m = contents c.args.model.now in
    let bytes = c.args.text.now.bytes.now in
    let p = err_from_is_err_and c.from_residual.result c.from_residual.ensures.1 in
    faults_on c.from_residual.result c.read_members.result p.0 c.in_err-x.field-0.0 (λ f. IsWrongFrom (part_due m Columns 1) bytes c.args.at f)
    (λ f. IsWrongFrom (due m claims.DualInfeasible) bytes c.args.at f) p.1 p.2 c.in_err-x.was (direction_columns_wrong m bytes c.args.at)
    c.read_members.ensures.wrong

pub returns-in_err-r-clause-wrong : goal.returns-in_err-r-clause-wrong
returns-in_err-r-clause-wrong c =
    let m = contents c.args.model.now in
    let bytes = c.args.text.now.bytes.now in
    let p = err_from_is_err_and c.from_residual-in_err-r.result c.from_residual-in_err-r.ensures.1 in
    faults_on c.from_residual-in_err-r.result c.read_members-2.result p.0 c.in_err-r.field-0.0
    (λ f. IsWrongFrom (part_due m Rows 1) bytes (c.args.at + c.count.result) f) (λ f. IsWrongFrom (due m claims.DualInfeasible) bytes c.args.at f) p.1 p.2
    c.in_err-r.was
    (λ f w. direction_rows_wrong m bytes c.args.at c.in_ok-x.x f c.in_ok-x.ensures.read
    (subst (λ n. IsWrongFrom (part_due m Rows 1) bytes (c.args.at + n) f) c.count.ensures w)) c.read_members-2.ensures.wrong

pub returns-in_err-end-clause-wrong : goal.returns-in_err-end-clause-wrong
returns-in_err-end-clause-wrong c =
    let m = contents c.args.model.now in
    let bytes = c.args.text.now.bytes.now in
    let p = err_from_is_err_and c.from_residual-in_err-end.result c.from_residual-in_err-end.ensures.1 in
    let rows = subst (λ n. HasMembers m Rows bytes (c.args.at + n) c.in_ok-r.r) c.count.ensures c.in_ok-r.ensures.read in
    let f = c.in_err-end.field-0.0 in
    named_on c.from_residual-in_err-end.result p.0 f (λ f. IsWrongFrom (due m claims.DualInfeasible) bytes c.args.at f) p.1 p.2
    (direction_end_wrong m bytes c.args.at c.in_ok-x.x c.in_ok-r.r f c.in_ok-x.ensures.read rows
    (rw (c.count.ensures, c.count-2.ensures) at c.in_err-end.ensures.wrong))

pub returns-clause-read : goal.returns-clause-read
returns-clause-read c =
    let m = contents c.args.model.now in
    let bytes = c.args.text.now.bytes.now in
    let rows = subst (λ n. HasMembers m Rows bytes (c.args.at + n) c.in_ok-r.r) c.count.ensures c.in_ok-r.ensures.read in
    direction_read m bytes c.args.at c.in_ok-x.x c.in_ok-r.r c.in_ok-x.ensures.read rows (rw (c.count.ensures, c.count-2.ensures) at c.in_ok-end.ensures.due)
