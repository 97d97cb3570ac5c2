use Rattle.std.proofs.Common.{◌+◌, subst}
use Rattle.std.proofs.lemmas.Result.{err_from_is_err_and}
use Rattle.pami_model.specs.Contents.{contents}
use Rattle.pami_cert.specs.declared.cert.Claim.TheVariants as claims
use Rattle.pami_cert.specs.declared.part.Part.TheVariants.{Columns, Rows}
use Rattle.pami_cert.specs.Due.{due, part_due}
use Rattle.pami_cert.specs.Read.{IsWrongFrom, HasPairs}
use Rattle.pami_cert.proofs.Judged.{named_on}
use Rattle.pami_cert.proofs.Answering.{faults_on, best_columns_wrong, best_rows_wrong, best_end_wrong, best_read}
use Rattle.pami_cert.proofs.read.read_optimal.Goals as goal

pub returns-in_err-x-clause-wrong : goal.returns-in_err-x-clause-wrong
returns-in_err-x-clause-wrong c =
    let m = contents c.args.model.now in
    let bytes = c.args.text.now.bytes.now in
    let told = c.in_ok-objective.ensures.due in
    let p = err_from_is_err_and c.from_residual-in_err-x.result c.from_residual-in_err-x.ensures.1 in
    faults_on c.from_residual-in_err-x.result c.read_pairs.result p.0 c.in_err-x.field-0.0 (λ f. IsWrongFrom (part_due m Columns 2) bytes (c.args.at + 1) f)
    (λ f. IsWrongFrom (due m claims.Optimal) bytes c.args.at f) p.1 p.2 c.in_err-x.was
    (λ f w. best_columns_wrong m bytes c.args.at c.in_ok-objective.objective f told w) c.read_pairs.ensures.wrong

pub returns-in_err-r-clause-wrong : goal.returns-in_err-r-clause-wrong
returns-in_err-r-clause-wrong c =
    let m = contents c.args.model.now in
    let bytes = c.args.text.now.bytes.now in
    let told = c.in_ok-objective.ensures.due in
    let p = err_from_is_err_and c.from_residual-in_err-r.result c.from_residual-in_err-r.ensures.1 in
    faults_on c.from_residual-in_err-r.result c.read_pairs-2.result p.0 c.in_err-r.field-0.0
    (λ f. IsWrongFrom (part_due m Rows 2) bytes (c.args.at + 1 + c.count.result) f) (λ f. IsWrongFrom (due m claims.Optimal) bytes c.args.at f) p.1 p.2
    c.in_err-r.was
    (λ f w. best_rows_wrong m bytes c.args.at c.in_ok-objective.objective c.in_ok-x.x c.in_ok-x.d f told c.in_ok-x.ensures.read
    (subst (λ n. IsWrongFrom (part_due m Rows 2) bytes (c.args.at + 1 + n) f) c.count.ensures w)) c.read_pairs-2.ensures.wrong

pub returns-in_err-end-clause-wrong : goal.returns-in_err-end-clause-wrong
returns-in_err-end-clause-wrong c =
    let m = contents c.args.model.now in
    let bytes = c.args.text.now.bytes.now in
    let told = c.in_ok-objective.ensures.due in
    let p = err_from_is_err_and c.from_residual-in_err-end.result c.from_residual-in_err-end.ensures.1 in
    let rows = subst (λ n. HasPairs m Rows bytes (c.args.at + 1 + n) c.in_ok-r.r c.in_ok-r.y) c.count.ensures c.in_ok-r.ensures.read in
    let f = c.in_err-end.field-0.0 in
    named_on c.from_residual-in_err-end.result p.0 f (λ f. IsWrongFrom (due m claims.Optimal) bytes c.args.at f) p.1 p.2
    (best_end_wrong m bytes c.args.at c.in_ok-objective.objective c.in_ok-x.x c.in_ok-x.d c.in_ok-r.r c.in_ok-r.y f told c.in_ok-x.ensures.read rows
    (rw (c.count.ensures, c.count-2.ensures) at c.in_err-end.ensures.wrong))

pub returns-clause-read : goal.returns-clause-read
returns-clause-read c =
    let m = contents c.args.model.now in
    let bytes = c.args.text.now.bytes.now in
    let told = c.in_ok-objective.ensures.due in
    let rows = subst (λ n. HasPairs m Rows bytes (c.args.at + 1 + n) c.in_ok-r.r c.in_ok-r.y) c.count.ensures c.in_ok-r.ensures.read in
    best_read m bytes c.args.at c.in_ok-objective.objective c.in_ok-x.x c.in_ok-x.d c.in_ok-r.r c.in_ok-r.y told c.in_ok-x.ensures.read rows
    (rw (c.count.ensures, c.count-2.ensures) at c.in_ok-end.ensures.due)
