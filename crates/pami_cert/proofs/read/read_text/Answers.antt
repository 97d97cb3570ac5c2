use Rattle.std.proofs.Common.{◌+◌, ◌≤◌, length, sym, subst}
use Rattle.pami_model.specs.Contents.{contents}
use Rattle.pami_model.specs.Rules.{byte_limit}
use Rattle.pami_cert.specs.declared.cert.Claim.TheVariants as claims
use Rattle.pami_cert.specs.Due.{due}
use Rattle.pami_cert.specs.FirstFault.{FirstFault}
use Rattle.pami_cert.specs.Read.{HasHeadAt, IsWrongFrom}
use Rattle.pami_cert.proofs.Answering.{named_so, text_wrong}
use Rattle.pami_cert.proofs.read.read_text.Goals as goal

pub returns-in-Optimal-clause-refused : goal.returns-in-Optimal-clause-refused
returns-in-Optimal-clause-refused c =
    let m = contents c.args.model.now in
    let bytes = c.in_ok-text.text.bytes.now in
    let at = c.in_ok-head.head in
    let short : length bytes ≤ byte_limit = subst (λ bs. length bs ≤ byte_limit) (sym c.in_ok-text.ensures) c.if-bytes-gt-BYTE_LIMIT.false in
    let head = subst (λ claim. HasHeadAt bytes at claim) c.in-Optimal.is c.in_ok-head.ensures.found in
    named_so c.read_optimal.result (λ f. IsWrongFrom (due m claims.Optimal) bytes (at + 1) f) (λ f. FirstFault m c.args.bytes.now f)
    (λ f w. subst (λ bs. FirstFault m bs f) c.in_ok-text.ensures (text_wrong m bytes at claims.Optimal f short head w)) c.read_optimal.ensures.wrong

pub returns-in-Infeasible-clause-refused : goal.returns-in-Infeasible-clause-refused
returns-in-Infeasible-clause-refused c =
    let m = contents c.args.model.now in
    let bytes = c.in_ok-text.text.bytes.now in
    let at = c.in_ok-head.head in
    let short : length bytes ≤ byte_limit = subst (λ bs. length bs ≤ byte_limit) (sym c.in_ok-text.ensures) c.if-bytes-gt-BYTE_LIMIT.false in
    let head = subst (λ claim. HasHeadAt bytes at claim) c.in-Infeasible.is c.in_ok-head.ensures.found in
    named_so c.read_infeasible.result (λ f. IsWrongFrom (due m claims.Infeasible) bytes (at + 1) f) (λ f. FirstFault m c.args.bytes.now f)
    (λ f w. subst (λ bs. FirstFault m bs f) c.in_ok-text.ensures (text_wrong m bytes at claims.Infeasible f short head w)) c.read_infeasible.ensures.wrong

pub returns-clause-refused : goal.returns-clause-refused
returns-clause-refused c =
    let m = contents c.args.model.now in
    let bytes = c.in_ok-text.text.bytes.now in
    let at = c.in_ok-head.head in
    let short : length bytes ≤ byte_limit = subst (λ bs. length bs ≤ byte_limit) (sym c.in_ok-text.ensures) c.if-bytes-gt-BYTE_LIMIT.false in
    let head = subst (λ claim. HasHeadAt bytes at claim) c.in-DualInfeasible.is c.in_ok-head.ensures.found in
    named_so c.read_dual_infeasible.result (λ f. IsWrongFrom (due m claims.DualInfeasible) bytes (at + 1) f) (λ f. FirstFault m c.args.bytes.now f)
    (λ f w. subst (λ bs. FirstFault m bs f) c.in_ok-text.ensures (text_wrong m bytes at claims.DualInfeasible f short head w))
    c.read_dual_infeasible.ensures.wrong
