use Rattle.std.proofs.lemmas.Result.{err_from_is_err_and}
use Rattle.pami_model.specs.Contents.{contents}
use Rattle.pami_cert.specs.declared.cert.Claim.TheVariants as claims
use Rattle.pami_cert.specs.declared.part.Part.TheVariants.{Rows}
use Rattle.pami_cert.specs.Due.{due, part_due}
use Rattle.pami_cert.specs.Read.{IsWrongFrom}
use Rattle.pami_cert.proofs.Judged.{named_on}
use Rattle.pami_cert.proofs.Answering.{faults_on, infeasible_rows_wrong, infeasible_end_wrong, infeasible_read}
use Rattle.pami_cert.proofs.read.read_infeasible.Goals as goal

pub returns-in_err-y-clause-wrong : goal.returns-in_err-y-clause-wrong
returns-in_err-y-clause-wrong c =
    let m = contents c.args.model.now in
    let bytes = c.args.text.now.bytes.now in
    let p = err_from_is_err_and c.from_residual.result c.from_residual.ensures.1 in
    faults_on c.from_residual.result c.read_members.result p.0 c.in_err-y.field-0.0 (λ f. IsWrongFrom (part_due m Rows 1) bytes c.args.at f)
    (λ f. IsWrongFrom (due m claims.Infeasible) bytes c.args.at f) p.1 p.2 c.in_err-y.was (infeasible_rows_wrong m bytes c.args.at) c.read_members.ensures.wrong

pub returns-in_err-end-clause-wrong : goal.returns-in_err-end-clause-wrong
returns-in_err-end-clause-wrong c =
    let m = contents c.args.model.now in
    let bytes = c.args.text.now.bytes.now in
    let p = err_from_is_err_and c.from_residual-in_err-end.result c.from_residual-in_err-end.ensures.1 in
    let f = c.in_err-end.field-0.0 in
    named_on c.from_residual-in_err-end.result p.0 f (λ f. IsWrongFrom (due m claims.Infeasible) bytes c.args.at f) p.1 p.2
    (infeasible_end_wrong m bytes c.args.at c.in_ok-y.y f c.in_ok-y.ensures.read (rw c.count.ensures at c.in_err-end.ensures.wrong))

pub returns-clause-read : goal.returns-clause-read
returns-clause-read c =
    let m = contents c.args.model.now in
    let bytes = c.args.text.now.bytes.now in
    infeasible_read m bytes c.args.at c.in_ok-y.y c.in_ok-y.ensures.read (rw c.count.ensures at c.in_ok-end.ensures.due)
