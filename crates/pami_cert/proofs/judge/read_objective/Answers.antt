use Rattle.std.proofs.Common.{◌≡◌, ◌∷◌, [], codes, rules}
use Rattle.std.proofs.lemmas.Result.{err_from_is_err_and}
use Rattle.pami_cert.specs.CertText.{words_of}
use Rattle.pami_cert.specs.Due.{Objective, IsWrong}
use Rattle.pami_cert.proofs.Judged.{handed_on, no_objective}
use Rattle.pami_cert.proofs.judge.read_objective.Goals as goal

pub returns-in_err-number-clause-wrong : goal.returns-in_err-number-clause-wrong
returns-in_err-number-clause-wrong c =
    let words : words_of c.args.line.now ≡ c.in_ok-first.first.now ∷ c.in_ok-first.value.now ∷ [] = search rules in
    let first : c.in_ok-first.first.now ≡ codes "objective" = search rules in
    let other : ¬ (c.in_ok-first.value.now ≡ codes "wide") = search rules in
    let p = err_from_is_err_and c.from_residual-in_err-number.result c.from_residual-in_err-number.ensures.1 in
    handed_on c.from_residual-in_err-number.result p.0 c.in_err-number.field-0.0 (λ kind. IsWrong Objective (words_of c.args.line.now) kind) p.1 p.2
    (no_objective (words_of c.args.line.now) c.in_ok-first.first.now c.in_ok-first.value.now c.in_err-number.field-0.0 words first other
    c.in_err-number.ensures.wrong)
